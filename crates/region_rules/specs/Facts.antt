-- What the rules of places of control ask of a term, and what a term has of it by its parts.
use Rattle.std.specs.Prelude.{ℕ, zero, suc, List, [], ◌∷◌, Bool, true, false, cond, ◌&&◌, ◌||◌, nat_le, bytes_eq, Option, Some, None, codes}
use Rattle.c_parser.specs.declared.tree.UnarySign.{UnarySign}
use Rattle.c_parser.specs.declared.tree.UnarySign.TheVariants as un
use Rattle.c_parser.specs.declared.tree.Sum.{Sum}
use Rattle.c_parser.specs.declared.tree.Target.{Target as TargetTree, out-Target}
use Rattle.clan_extract.specs.Regions.{Expression, Remainder, Comparison}
use Rattle.clan_extract.specs.Forms.{has_names, is_affine}
use Rattle.clan_extract.specs.Scops.{is_lower_bound, is_upper_bound, is_equality, is_condition}
use Rattle.region_trees.specs.Terms.{Operation, Plus, Minus, Times, Modulo, Conjunction, Disjunction, Compares, Term}
use Rattle.region_trees.specs.Regions.{option_map, expression_of, divisor_of, integer_of, remainder_of, condition_of, bound_of}
use Rattle.region_rules.specs.declared.facts.Affinity.{Affinity}
use Rattle.region_rules.specs.declared.facts.Affinity.TheVariants as aff
use Rattle.region_rules.specs.declared.facts.Size.{Size}
use Rattle.region_rules.specs.declared.facts.Size.TheVariants as size
use Rattle.region_rules.specs.declared.facts.Facts.{Facts}
use Rattle.region_rules.specs.declared.facts.Arguments.{Arguments}
use Rattle.region_rules.specs.declared.facts.Arguments.TheVariants as arg

-- there is one, and it passes the test
abbrev pub holds : {A : Type 0} → (A → Bool) → Option A → Bool
holds test None = false
holds test (Some a) = test a

-- ---- what is asked of a term

abbrev pub size_of : ℕ → Size
size_of zero = size.Zero
size_of (suc zero) = size.One
size_of (suc (suc n)) = size.Larger

-- with one digit more
abbrev pub size_with : Size → ℕ → Size
size_with size.Zero digit = size_of digit
size_with size.One digit = size.Larger
size_with size.Larger digit = size.Larger

abbrev pub affinity_of : Option Expression → Affinity
affinity_of None = aff.NotAffine
affinity_of (Some e) = cond (is_affine e) (cond (has_names e) aff.Named aff.Constant) aff.NotAffine

-- e % c of an affine e and a c of at least 1
abbrev pub is_fair : Expression → Bool
is_fair (Remainder of divisor) = is_affine of && nat_le 1 divisor
is_fair e = false

abbrev pub facts_of : Term → Facts
facts_of t = record {
  affinity = affinity_of (expression_of t);
  number = option_map size_of (integer_of t);
  is_divisor = holds (nat_le 1) (divisor_of t);
  is_remainder = holds is_fair (remainder_of t);
  is_condition = holds is_condition (condition_of t);
  is_lower_bound = holds is_lower_bound (bound_of t);
  is_upper_bound = holds is_upper_bound (bound_of t);
}

-- ---- numbers and affinities

abbrev pub is_zero : Option Size → Bool
is_zero None = false
is_zero (Some size.Zero) = true
is_zero (Some size.One) = false
is_zero (Some size.Larger) = false

abbrev pub is_some_size : Size → Bool
is_some_size size.Zero = false
is_some_size size.One = true
is_some_size size.Larger = true

abbrev pub is_positive : Option Size → Bool
is_positive None = false
is_positive (Some s) = is_some_size s

abbrev pub is_affine_kind : Affinity → Bool
is_affine_kind aff.NotAffine = false
is_affine_kind aff.Constant = true
is_affine_kind aff.Named = true

abbrev pub sum_affinity : Affinity → Affinity → Affinity
sum_affinity aff.NotAffine b = aff.NotAffine
sum_affinity aff.Constant b = b
sum_affinity aff.Named aff.NotAffine = aff.NotAffine
sum_affinity aff.Named aff.Constant = aff.Named
sum_affinity aff.Named aff.Named = aff.Named

-- one factor has no names
abbrev pub product_affinity : Affinity → Affinity → Affinity
product_affinity aff.NotAffine b = aff.NotAffine
product_affinity aff.Constant b = b
product_affinity aff.Named aff.NotAffine = aff.NotAffine
product_affinity aff.Named aff.Constant = aff.Named
product_affinity aff.Named aff.Named = aff.NotAffine

-- ---- what a term has by its parts

abbrev pub plain : Affinity → Facts
plain a = record {
  affinity = a;
  number = None;
  is_divisor = false;
  is_remainder = false;
  is_condition = false;
  is_lower_bound = is_affine_kind a;
  is_upper_bound = is_affine_kind a;
}

abbrev pub no_facts : Facts
no_facts = plain aff.NotAffine

abbrev pub integer : Size → Facts
integer s = record {
  affinity = aff.Constant;
  number = Some s;
  is_divisor = is_some_size s;
  is_remainder = false;
  is_condition = false;
  is_lower_bound = true;
  is_upper_bound = true;
}

abbrev pub bracketed : Facts → Facts
bracketed of = record {
  affinity = of.affinity;
  number = of.number;
  is_divisor = false;
  is_remainder = of.is_remainder;
  is_condition = of.is_condition;
  is_lower_bound = is_affine_kind of.affinity;
  is_upper_bound = is_affine_kind of.affinity;
}

abbrev pub with_condition : Affinity → Bool → Facts
with_condition a condition = record (plain a) { is_condition = condition }

abbrev pub signed : UnarySign → Facts → Facts
signed un.Plus of = plain of.affinity
signed un.Minus of = plain of.affinity
signed un.Not of = with_condition aff.NotAffine of.is_condition

abbrev pub remainder : Facts → Facts → Facts
remainder left right = record no_facts { is_remainder = is_affine_kind left.affinity && is_positive right.number }

abbrev pub are_affine : Facts → Facts → Bool
are_affine left right = is_affine_kind left.affinity && is_affine_kind right.affinity

-- a remainder and 0, or two affine values
abbrev pub are_equated : Facts → Facts → Bool
are_equated left right = cond (left.is_remainder && is_zero right.number) true (are_affine left right)

abbrev pub are_compared : Comparison → Facts → Facts → Bool
are_compared comparison left right = cond (is_equality comparison) (are_equated left right) (are_affine left right)

abbrev pub join : Operation → Facts → Facts → Facts
join Plus left right = plain (sum_affinity left.affinity right.affinity)
join Minus left right = plain (sum_affinity left.affinity right.affinity)
join Times left right = plain (product_affinity left.affinity right.affinity)
join Modulo left right = remainder left right
join Conjunction left right = with_condition aff.NotAffine (left.is_condition && right.is_condition)
join Disjunction left right = with_condition aff.NotAffine (left.is_condition && right.is_condition)
join (Compares comparison) left right = with_condition aff.NotAffine (are_compared comparison left right)
join operation left right = no_facts

abbrev pub bound : Bool → Bool → Facts
bound lower upper = record no_facts { is_lower_bound = lower; is_upper_bound = upper }

abbrev pub maximum : Facts → Facts → Facts
maximum left right = bound (left.is_lower_bound && right.is_lower_bound) false

abbrev pub minimum : Facts → Facts → Facts
minimum left right = bound false (left.is_upper_bound && right.is_upper_bound)

abbrev pub quotient : Facts → Facts → Facts
quotient left right = bound (is_affine_kind left.affinity && right.is_divisor) (is_affine_kind left.affinity && right.is_divisor)

abbrev pub called : List ℕ → Facts → Facts → Facts
called name left right =
    cond (bytes_eq name (codes "max")) (maximum left right)
    (cond (bytes_eq name (codes "min")) (minimum left right)
    (cond (bytes_eq name (codes "ceild")) (quotient left right)
    (cond (bytes_eq name (codes "floord")) (quotient left right) no_facts)))

abbrev pub with_argument : Arguments → Facts → Arguments
with_argument arg.None next = arg.One next
with_argument (arg.One first) next = arg.Two first next
with_argument (arg.Two first second) next = arg.More
with_argument arg.More next = arg.More

-- of two arguments alone
abbrev pub called_with : List ℕ → Arguments → Facts
called_with name arg.None = no_facts
called_with name (arg.One first) = no_facts
called_with name (arg.Two first second) = called name first second
called_with name arg.More = no_facts

-- ---- along the tree

-- of a name with its subscripts
abbrev pub named_facts : List Sum → Facts
named_facts [] = plain aff.Named
named_facts (x ∷ xs) = no_facts

abbrev pub name_facts : TargetTree → Facts
name_facts t = named_facts (out-Target t).subscripts

abbrev pub next_facts : Option Facts → Facts → Facts
next_facts None next = next
next_facts (Some before) next = join Conjunction before next

abbrev pub all_facts : Option Facts → Facts
all_facts None = no_facts
all_facts (Some facts) = facts
