-- The layers of loops and conditions at a place of the walk.
use Rattle.std.proofs.Common.{◌≡◌, ℕ, List, Bool, true, false, subst}
use Rattle.c_lexer.specs.Pieces.{bytes_of}
use Rattle.c_parser.specs.declared.tree.Loop.{Loop, out-Loop}
use Rattle.c_parser.specs.declared.tree.Value.{Value}
use Rattle.clan_rows.specs.Layers.{LayerData}
use Rattle.clan_walk.specs.Walk.{State}
use Rattle.region_trees.specs.Regions.{condition_of}
use Rattle.region_trees.specs.Statements.{step_of}
use Rattle.region_trees.specs.Terms.{order_of, sum_of, value_of}
use Rattle.region_forms.specs.declared.scopes.Scope.{Scope}
use Rattle.region_forms.specs.Bounds.{IsLoop, IsLoopAt}
use Rattle.region_forms.specs.Conditions.{IsTest, IsTestAt}

pub unasked : {A : Type 0} (b : Bool) → false ≡ b → b ≡ true → A
unasked true e f = absurd (cc)
unasked false e f = absurd (cc)

module _ (scope : Scope) (source : List ℕ) (s : State) (l : LayerData) (same : scope.source.now ≡ source) (given : scope.parameters.now ≡ s.parameters)
    (looped : scope.loops.now ≡ s.loops) where
  pub test_here : (truth : Bool) (v : Value) → IsTestAt scope truth (value_of scope.source.now v).term l
      → IsTest s.parameters s.loops truth (condition_of (value_of source v).term) l
  test_here truth v p =
      subst (λ ls. IsTest s.parameters ls truth (condition_of (value_of source v).term) l) looped
      (subst (λ ps. IsTest ps scope.loops.now truth (condition_of (value_of source v).term) l) given
      (subst (λ x. IsTest scope.parameters.now scope.loops.now truth (condition_of (value_of x v).term) l) same p))

  abbrev IsLoopIn : List ℕ → List (List ℕ) → List (List ℕ) → Loop → Type 0
  IsLoopIn x ps ls head =
      IsLoop ps ls (bytes_of x (out-Loop head).name) (sum_of x (out-Loop head).start) (order_of (out-Loop head).rel) (sum_of x (out-Loop head).bound)
      (step_of x (out-Loop head).step) l

  pub loop_here : (head : Loop) → IsLoopAt scope head l → IsLoopIn source s.parameters s.loops head
  loop_here head p =
      subst (λ ls. IsLoopIn source s.parameters ls head) looped
      (subst (λ ps. IsLoopIn source ps scope.loops.now head) given (subst (λ x. IsLoopIn x scope.parameters.now scope.loops.now head) same p))
