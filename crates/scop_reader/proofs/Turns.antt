-- A recursion on a count of turns, beside a loop that counts up.
use Rattle.std.proofs.Common.{◌≡◌, ℕ, suc, ◌+◌, ◌-◌, ◌<◌, ◌≤◌, ap, ◌∙◌, arith}

pub one_more : {X : Type 0} {x : X} (f : ℕ → X) (n at : ℕ) → at < n → x ≡ f (n - at) → x ≡ f (suc (n - (at + 1)))
one_more f n at below e = let turn : n - at ≡ suc (n - (at + 1)) = omega arith in e ∙ ap f turn

pub no_more : {X : Type 0} {x : X} (f : ℕ → X) (n at : ℕ) → n ≤ at → x ≡ f (n - at) → x ≡ f 0
no_more f n at done e = let none : n - at ≡ 0 = omega arith in e ∙ ap f none

-- a count that goes down
pub one_less : {X : Type 0} {x : X} (f : ℕ → X) (n : ℕ) → 0 < n → x ≡ f n → x ≡ f (suc (n - 1))
one_less f n some e = let turn : n ≡ suc (n - 1) = omega arith in e ∙ ap f turn

pub none_left : {X : Type 0} {x : X} (f : ℕ → X) (n : ℕ) → n ≤ 0 → x ≡ f n → x ≡ f 0
none_left f n done e = let none : n ≡ 0 = omega arith in e ∙ ap f none
