-- Scripts that grow piece by piece: what is there and what is still to come are the whole.
use Rattle.std.proofs.Common.{◌≡◌, ℕ, zero, suc, ◌+◌, ◌-◌, ◌<◌, ◌≤◌, List, [], ◌∷◌, ◌++◌, length, refl, sym, ◌∙◌, ap, subst, arith, append_assoc, append-nil}
use Rattle.std.specs.Prelude.{Result, Err, IfErr}
use Rattle.std.specs.List.{range_with_len}
use Rattle.std.proofs.lemmas.List.{length-append}
use Rattle.suite_base.specs.declared.refusals.Fail.{Fail}
use Rattle.suite_base.specs.declared.refusals.Fail.TheVariants.{Memory, Refused}
use Rattle.clay_script.specs.declared.commands.Command.{Command}
use Rattle.schedule_recovery.specs.Lengths.{IsTooLong}

-- one piece more
pub stepped : {A : Type 0} (old piece rest all now : List A) → now ≡ old ++ piece → old ++ (piece ++ rest) ≡ all → now ++ rest ≡ all
stepped old piece rest all now e h = ap (λ z. z ++ rest) e ∙ (append_assoc old piece rest ∙ h)

-- nothing is still to come
pub ended : {A : Type 0} (now all : List A) → now ++ [] ≡ all → now ≡ all
ended now all h = sym (append-nil now) ∙ h

-- five pieces
pub five : {A : Type 0} (o a b c d e x1 x2 x3 x4 x5 : List A) → x1 ≡ o ++ a → x2 ≡ x1 ++ b → x3 ≡ x2 ++ c → x4 ≡ x3 ++ d → x5 ≡ x4 ++ e → x5 ≡ o ++ (a ++ (b ++ (c ++ (d ++ e))))
five o a b c d e x1 x2 x3 x4 x5 h1 h2 h3 h4 h5 =
    h5 ∙ stepped x3 d e (o ++ (a ++ (b ++ (c ++ (d ++ e))))) x4 h4
    (stepped x2 c (d ++ e) (o ++ (a ++ (b ++ (c ++ (d ++ e))))) x3 h3
    (stepped x1 b (c ++ (d ++ e)) (o ++ (a ++ (b ++ (c ++ (d ++ e))))) x2 h2
    (stepped o a (b ++ (c ++ (d ++ e))) (o ++ (a ++ (b ++ (c ++ (d ++ e))))) x1 h1 refl)))

-- the numbers from k on
pub range_more : (k n : ℕ) → k < n → range_with_len k (n - k) ≡ k ∷ range_with_len (k + 1) (n - (k + 1))
range_more k n l = ap (range_with_len k) (let e : n - k ≡ suc (n - (k + 1)) = omega arith in e)

-- commands that begin others
pub front_is_short : (a b all : List Command) → a ++ b ≡ all → length a ≤ length all
front_is_short a b all e = let l = length-append a b in let m : length (a ++ b) ≡ length all = ap length e in omega arith

pub longer : (a all : List Command) (fail : Fail) → length a ≤ length all → IsTooLong a fail → IsTooLong all fail
longer a all Memory l h = tt
longer a all (Refused refusal) l h = (h.0, let m = h.1 in omega arith)

pub begins : (a b all : List Command) (fail : Fail) → a ++ b ≡ all → IsTooLong a fail → IsTooLong all fail
begins a b all fail e h = longer a all fail (front_is_short a b all e) h

-- the numbers from a on, with one more
pub range_end : (a n : ℕ) → range_with_len a (n + 1) ≡ range_with_len a n ++ (a + n) ∷ []
range_end a zero = ap (λ z. z ∷ []) (let e : a ≡ a + 0 = omega arith in e)
range_end a (suc n) =
    let up : suc n + 1 ≡ suc (n + 1) = omega arith in
    let last : a + 1 + n ≡ a + suc n = omega arith in
    ap (range_with_len a) up ∙ (ap (λ z. a ∷ z) (range_end (a + 1) n) ∙ ap (λ z. a ∷ (range_with_len (a + 1) n ++ z ∷ [])) last)

-- a call that ended early

pub fail_stops : {A : Type 0} (r : Result A Fail) (fail : Fail) (commands : List Command) → r ≡ Err fail → IsTooLong commands fail → IfErr r (IsTooLong commands)
fail_stops r fail commands e h = subst (λ z. IfErr z (IsTooLong commands)) (sym e) h

pub memory_stops : {A : Type 0} (r : Result A Fail) (commands : List Command) → r ≡ Err Memory → IfErr r (IsTooLong commands)
memory_stops r commands e = fail_stops r Memory commands e tt

pub equal_length : (a b : List Command) → a ≡ b → length a ≤ length b
equal_length a b e = let l : length a ≡ length b = ap length e in omega arith

pub numbers_end : (k : ℕ) → range_with_len 0 k ++ k ∷ [] ≡ range_with_len 0 (k + 1)
numbers_end k = sym (range_end 0 k ∙ ap (λ z. range_with_len 0 k ++ z ∷ []) (let e : 0 + k ≡ k = omega arith in e))
