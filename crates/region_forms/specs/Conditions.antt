-- What the layer of a condition has to be. Nothing is asked where the term is no condition within the rules.
use Rattle.std.specs.Prelude.{◌≡◌, ℕ, List, [], ◌∷◌, Bool, true, false, cond, not, Option, Some, None}
use Rattle.c_parser.specs.declared.tree.UnarySign.{UnarySign}
use Rattle.c_parser.specs.declared.tree.UnarySign.TheVariants as un
use Rattle.clan_extract.specs.Regions.{Comparison, Condition}
use Rattle.clan_extract.specs.Constraints.{opposite_comparison}
use Rattle.clan_extract.specs.Scops.{is_condition}
use Rattle.clan_rows.specs.declared.layers.Layer.{Layer}
use Rattle.clan_rows.specs.Contents.{said}
use Rattle.clan_rows.specs.Layers.{LayerData, condition_layer, crossed_layers, in_turn_layers}
use Rattle.region_trees.specs.Terms.{Operation, Term}
use Rattle.region_trees.specs.Regions.{compared, condition_of}
use Rattle.region_trees.specs.Layers.{all_by}
use Rattle.region_forms.specs.declared.scopes.Scope.{Scope}

-- of a condition that is to have this truth, inside these loops
abbrev pub IsTest : List (List ℕ) → List (List ℕ) → Bool → Option Condition → LayerData → Type 0
IsTest parameters loops truth condition l = (c : Condition) → condition ≡ Some c → is_condition c ≡ true → l ≡ condition_layer parameters loops truth c

-- of a term at a place
abbrev pub IsTestAt : Scope → Bool → Term → LayerData → Type 0
IsTestAt scope truth t l = IsTest scope.parameters.now scope.loops.now truth (condition_of t) l

-- of the comparison of two terms at a place
abbrev pub AreSidesAt : Scope → Bool → Comparison → Term → Term → LayerData → Type 0
AreSidesAt scope truth comparison left right l = IsTest scope.parameters.now scope.loops.now truth (compared comparison left right) l

-- of the operands so far: there is no layer before the first
abbrev pub AreTestsAt : {X : Type 0} → Scope → Bool → Operation → (X → Term) → List X → Option LayerData → Type 0
AreTestsAt scope truth operation says [] None = Unit {0}
AreTestsAt scope truth operation says [] (Some l) = ⊥
AreTestsAt scope truth operation says (x ∷ xs) None = ⊥
AreTestsAt scope truth operation says (x ∷ xs) (Some l) = IsTestAt scope truth (all_by operation says (says x) xs) l

-- the layer of the code, where there is one
abbrev pub made_layer : Option Layer → Option LayerData
made_layer None = None
made_layer (Some l) = Some (said l)

abbrev pub IsThere : Option Layer → Layer → Type 0
IsThere None l = Unit {0}
IsThere (Some given) l = l ≡ given

-- the layers of the operands so far, with one more
abbrev pub joined_layer : Bool → Option LayerData → LayerData → LayerData
joined_layer crossed None next = next
joined_layer true (Some l) next = crossed_layers l next
joined_layer false (Some l) next = in_turn_layers l next

-- the truth that is asked behind one sign, and behind signs
abbrev pub behind : Bool → UnarySign → Bool
behind truth un.Plus = truth
behind truth un.Minus = truth
behind truth un.Not = not truth

abbrev pub turned : Bool → List UnarySign → Bool
turned truth [] = truth
turned truth (sign ∷ signs) = turned (behind truth sign) signs

-- the comparison that is asked where one is to have this truth
abbrev pub asked : Bool → Comparison → Comparison
asked truth comparison = cond truth comparison (opposite_comparison comparison)
