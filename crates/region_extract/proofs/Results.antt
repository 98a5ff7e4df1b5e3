-- Values that come out of two results, of one, and through a test.
use Rattle.std.proofs.Common.{◌≡◌, ℕ, Bool, true, false, cond, Option, Some, None, Result, Ok, Err, refl, subst}
use Rattle.region_trees.specs.Regions.{passed, result_map, result_map2}

-- what two answer together, both answer
pub record AreBoth {A B C : Type 0} (f : A → B → C) (x : Result A ℕ) (y : Result B ℕ) (c : C) : Type 0 where
  pub left : A
  pub right : B
  pub left_is : x ≡ Ok left
  pub right_is : y ≡ Ok right
  pub made : c ≡ f left right

pub both_of : {A B C : Type 0} (f : A → B → C) (x : Result A ℕ) (y : Result B ℕ) (c : C) → result_map2 f x y ≡ Ok c → AreBoth f x y c
both_of f (Ok a) (Ok b) c e = record { left = a; right = b; left_is = refl; right_is = refl; made = cc }
both_of f (Ok a) (Err at) c e = absurd (cc)
both_of f (Err at) y c e = absurd (cc)

pub record IsOne {A B : Type 0} (f : A → B) (x : Result A ℕ) (b : B) : Type 0 where
  pub of : A
  pub of_is : x ≡ Ok of
  pub made : b ≡ f of

pub one_of : {A B : Type 0} (f : A → B) (x : Result A ℕ) (b : B) → result_map f x ≡ Ok b → IsOne f x b
one_of f (Ok a) b e = record { of = a; of_is = refl; made = cc }
one_of f (Err at) b e = absurd (cc)

-- what passes a test was there, and the test is true of it
pub record HasPassed {A : Type 0} (test : A → Bool) (x : Option A) (a : A) : Type 0 where
  pub was : x ≡ Some a
  pub holds : test a ≡ true

passed_by : {A : Type 0} (test : A → Bool) (at : ℕ) (a b : A) (t : Bool) → test a ≡ t → cond t (Ok a) (Err at) ≡ Ok b → HasPassed test (Some a) b
passed_by test at a b true e is = record { was = cc; holds = let same : a ≡ b = cc in subst (λ x. test x ≡ true) same e }
passed_by test at a b false e is = absurd (cc)

pub passed_of : {A : Type 0} (test : A → Bool) (at : ℕ) (x : Option A) (a : A) → passed test at x ≡ Ok a → HasPassed test x a
passed_of test at None a is = absurd (cc)
passed_of test at (Some b) a is = passed_by test at b a (test b) refl is
