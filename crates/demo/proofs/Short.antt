-- The texts and the scripts of demos are short.
use Rattle.std.proofs.Common.{◌≡◌, ◌⊎◌, inl, inr, ℕ, zero, suc, ◌+◌, ◌-◌, ◌≤◌, Bool, true, false, length, map, refl, ap, sym, subst, arith}
use Rattle.std.specs.Prelude.{nat_le, ◌&&◌, replicate}
use Rattle.std.specs.List.{range_with_len}
use Rattle.std.specs.Fmt.{digits}
use Rattle.std.proofs.lemmas.Bool.{leb-true}
use Rattle.std.proofs.lemmas.List.{length-append, length-replicate}
use Rattle.std.proofs.lemmas.List.FromFn.{length-map-range_with_len}
use Rattle.suite_base.specs.Limits.{max_commands, max_input}
use Rattle.demo.specs.Inputs.{array_name, assignment_line, loop_lines, demo_script, demo_text, fuse_next, shift_of}

-- a script of two commands for each loop but one
pub script_is_short : (k : ℕ) → k ≤ 32 → length (demo_script k) ≤ max_commands
unfolding demo_script
script_is_short k h =
    let shifts : length (map shift_of (range_with_len 1 (k - 1))) ≡ k - 1 = length-map-range_with_len shift_of 1 (k - 1) in
    let fuses : length (replicate (k - 1) fuse_next) ≡ k - 1 = length-replicate (k - 1) fuse_next in
    let all : length (demo_script k) ≡ length (map shift_of (range_with_len 1 (k - 1))) + length (replicate (k - 1) fuse_next) =
    length-append (map shift_of (range_with_len 1 (k - 1))) (replicate (k - 1) fuse_next) in
    omega (arith, shifts, fuses, all, h)

-- the text of k loops, and each shorter one, is within a limit
abbrev are_within : ℕ → Bool
are_within zero = nat_le (length (demo_text 0)) 2000
are_within (suc k) = nat_le (length (demo_text (suc k))) 2000 && are_within k

all_within : are_within 32 ≡ true
unfolding digits array_name assignment_line loop_lines demo_text
all_within = refl

left_true : (a b : Bool) → (a && b) ≡ true → a ≡ true
left_true true b h = refl
left_true false b h = absurd (cc)

right_true : (a b : Bool) → (a && b) ≡ true → b ≡ true
right_true true b h = h
right_true false b h = absurd (cc)

same_or_less : (k most : ℕ) → k ≤ suc most → (k ≡ suc most) ⊎ (k ≤ most)
same_or_less zero most h = inr (omega arith)
same_or_less (suc k) zero h = inl (omega (arith, h))
same_or_less (suc k) (suc most) h = elim (same_or_less k most (omega (arith, h))) [ inl e ↦ inl (ap suc e) | inr less ↦ inr (omega (arith, less)) ]

abbrev IsWithin : ℕ → Type 0
IsWithin k = nat_le (length (demo_text k)) 2000 ≡ true

within : (most k : ℕ) → are_within most ≡ true → k ≤ most → IsWithin k
within zero zero h le = h
within zero (suc k) h le = absurd (omega (arith, le))
within (suc most) k h le =
    let here : IsWithin (suc most) = left_true (nat_le (length (demo_text (suc most))) 2000) (are_within most) h in
    let less : are_within most ≡ true = right_true (nat_le (length (demo_text (suc most))) 2000) (are_within most) h in
    elim (same_or_less k most le) [ inl e ↦ subst IsWithin (sym e) here | inr l ↦ within most k less l ]

pub text_is_short : (k : ℕ) → k ≤ 32 → length (demo_text k) ≤ max_input
text_is_short k h =
    let test : IsWithin k = within 32 k all_within h in
    let le : length (demo_text k) ≤ 2000 = leb-true (length (demo_text k)) 2000 test in
    omega (arith, le)
