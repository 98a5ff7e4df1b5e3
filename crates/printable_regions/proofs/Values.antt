-- What is derived to a value goes along a path, and its names are names of C.
use Rattle.std.proofs.Common.{◌≡◌, inl, inr, ℕ, zero, suc, Bool, true, ◌&&◌, List, [], ◌∷◌, Option, refl, sym, ◌∙◌, ap, subst}
use Rattle.std.specs.List.{list_all}
use Rattle.c_lexer.specs.declared.symbols.Symbol.{Symbol}
use Rattle.c_lexer.specs.declared.symbols.Symbol.TheVariants as s
use Rattle.c_lexer.specs.declared.pieces.Piece.{Piece}
use Rattle.c_lexer.specs.Readings.{Reading}
use Rattle.c_lexer.specs.Input.{start}
use Rattle.c_lexer.specs.TokenForms.{is_name}
use Rattle.c_lexer.specs.Symbols.{is_sound}
use Rattle.c_lexer.specs.Pieces.{bytes_of}
use Rattle.c_parser.specs.declared.tree.Value.{Value, roll-Value, out-roll-Value}
use Rattle.c_parser.specs.declared.tree.Arms.{Arms, roll-Arms, out-roll-Arms}
use Rattle.c_parser.specs.declared.tree.Or.{Or, roll-Or, out-roll-Or}
use Rattle.c_parser.specs.declared.tree.And.{And, roll-And, out-roll-And}
use Rattle.c_parser.specs.declared.tree.Equal.{Equal, roll-Equal, out-roll-Equal}
use Rattle.c_parser.specs.declared.tree.EqualSign.{EqualSign}
use Rattle.c_parser.specs.declared.tree.EqualSign.TheVariants as eq
use Rattle.c_parser.specs.declared.tree.Compare.{Compare, roll-Compare, out-roll-Compare}
use Rattle.c_parser.specs.declared.tree.Rel.{Rel}
use Rattle.c_parser.specs.declared.tree.Rel.TheVariants as rl
use Rattle.c_parser.specs.declared.tree.Sum.{Sum, roll-Sum, out-roll-Sum}
use Rattle.c_parser.specs.declared.tree.SumSign.{SumSign}
use Rattle.c_parser.specs.declared.tree.SumSign.TheVariants as sm
use Rattle.c_parser.specs.declared.tree.Product.{Product, roll-Product, out-roll-Product}
use Rattle.c_parser.specs.declared.tree.ProductSign.{ProductSign}
use Rattle.c_parser.specs.declared.tree.ProductSign.TheVariants as pr
use Rattle.c_parser.specs.declared.tree.Unary.{Unary, roll-Unary, out-roll-Unary}
use Rattle.c_parser.specs.declared.tree.UnarySign.{UnarySign}
use Rattle.c_parser.specs.declared.tree.UnarySign.TheVariants as un
use Rattle.c_parser.specs.declared.tree.Primary.{Primary}
use Rattle.c_parser.specs.declared.tree.Primary.TheVariants as pri
use Rattle.c_parser.specs.declared.tree.Target.{Target, roll-Target, out-roll-Target}
use Rattle.c_parser.specs.Grammar as g
use Rattle.c_parser.specs.Grammar.{Phrase, ◌then◌, empty, none, token, word, signed, others, separated, each, nest, equal_token, rel_token, sum_token, product_token, unary_token, Forms, no_forms, IsTarget, IsPrimary, IsUnary, IsProduct, IsSum, IsCompare, IsEqual, IsAnd, IsOr, IsArms, IsValue, forms, nested}
use Rattle.region_trees.specs.Terms.{Operation, Conjunction, Disjunction, Term, Joined, Located, Element, Pair, of_rel, of_equal, of_sum, of_product, all_signed, sum_of, value_of, target_of, product_of, unary_of, primary_of, compare_of, equal_of, and_of, or_of}
use Rattle.region_trees.specs.Layers.{joined_by, all_by, some_by, terms_by, term_of_sum, sum_is, product_is, unary_is, primary_layer, primary_is, target_is, compare_is, equal_is, and_is, or_is, arms_is, with_arms, value_is}
use Rattle.printable_regions.specs.Sound.{is_named, are_named}
use Rattle.printable_regions.proofs.Bytes.{and_first, and_second, both_hold}
use Rattle.printable_regions.proofs.Goes.{Goes, stays, both_go, this_goes, word_goes}
use Rattle.printable_regions.proofs.Symbols.{Reads, name_at, is_word_symbol}

-- ---- terms of lists

joined_named : {S X : Type 0} (of : S → Operation) (says : X → Term) (left : Term) (xs : List (S × X))
    → is_named left ≡ true → list_all (λ x. is_named (says x.1)) xs ≡ true → is_named (joined_by of says left xs) ≡ true
joined_named of says left [] p q = p
joined_named of says left (x ∷ xs) p q =
    joined_named of says (Joined (of x.0) left (says x.1)) xs
    (both_hold _ _ p (and_first (is_named (says x.1)) (list_all (λ x. is_named (says x.1)) xs) q))
    (and_second (is_named (says x.1)) (list_all (λ x. is_named (says x.1)) xs) q)

all_named : {X : Type 0} (operation : Operation) (says : X → Term) (left : Term) (xs : List X)
    → is_named left ≡ true → list_all (λ x. is_named (says x)) xs ≡ true → is_named (all_by operation says left xs) ≡ true
all_named operation says left [] p q = p
all_named operation says left (x ∷ xs) p q =
    all_named operation says (Joined operation left (says x)) xs
    (both_hold _ _ p (and_first (is_named (says x)) (list_all (λ x. is_named (says x)) xs) q))
    (and_second (is_named (says x)) (list_all (λ x. is_named (says x)) xs) q)

some_named : {X : Type 0} (operation : Operation) (says : X → Term) (xs : List X)
    → list_all (λ x. is_named (says x)) xs ≡ true → is_named (some_by operation says xs) ≡ true
some_named operation says [] q = refl
some_named operation says (x ∷ xs) q =
    all_named operation says (says x) xs (and_first (is_named (says x)) (list_all (λ x. is_named (says x)) xs) q)
    (and_second (is_named (says x)) (list_all (λ x. is_named (says x)) xs) q)

terms_named : {X : Type 0} (says : X → Located) (xs : List X) → list_all (λ x. is_named (says x).term) xs ≡ true → are_named (terms_by says xs) ≡ true
terms_named says [] q = refl
terms_named says (x ∷ xs) q =
    both_hold _ _ (and_first (is_named (says x).term) (list_all (λ x. is_named (says x).term) xs) q)
    (terms_named says xs (and_second (is_named (says x).term) (list_all (λ x. is_named (says x).term) xs) q))

signed_named : (signs : List UnarySign) (of : Term) → is_named of ≡ true → is_named (all_signed signs of) ≡ true
signed_named [] of h = h
signed_named (sign ∷ signs) of h = signed_named signs of h

module _ (bytes : List ℕ) (n : ℕ) where
  -- from a place of the front to another, with what is told of the tree
  abbrev pub Told : Type 0 → Phrase → Type 0
  Told P d = (r r' : Reading) → Reads bytes n r → d r r' → Goes r r' × P

  abbrev pub Each : {A : Type 0} → (A → Bool) → (A → Phrase) → Type 0
  Each ok item = (a : _) → Told (ok a ≡ true) (item a)

  pub reads_on : (r r' : Reading) → Reads bytes n r → Goes r r' → Reads bytes n r'
  reads_on r r' e f = f.text ∙ e

  pub then_told : (P Q : Type 0) (d e : Phrase) → Told P d → Told Q e → Told (P × Q) (d then e)
  then_told P Q d e f g r r' h t =
      let a = f r t.0 h t.1 in let b = g t.0 r' (reads_on r t.0 h a.0) t.2 in (both_go r t.0 r' a.0 b.0, (a.1, b.1))

  pub this_told : (k : Symbol) → is_sound k ≡ true → Told (Unit {0}) (token k)
  this_told k s r r' h t = (this_goes k s r r' t, tt)

  pub signed_told : {S A : Type 0} (sign : S → Symbol) (item : A → Phrase) (ok : A → Bool) → ((x : S) → is_sound (sign x) ≡ true) → Each ok item
      → (xs : List (S × A)) → Told (list_all (λ x. ok x.1) xs ≡ true) (signed sign item xs)
  signed_told sign item ok s f [] r r' h t = (stays r r' t, refl)
  signed_told sign item ok s f (x ∷ xs) r r' h t =
      let a = then_told (Unit {0}) _ (token (sign x.0)) (item x.1 then signed sign item xs) (this_told (sign x.0) (s x.0))
      (then_told (ok x.1 ≡ true) (list_all (λ x. ok x.1) xs ≡ true) (item x.1) (signed sign item xs) (f x.1) (signed_told sign item ok s f xs)) r r' h t in
      (a.0, both_hold _ _ a.1.1.0 a.1.1.1)

  pub others_told : {A : Type 0} (separator : Symbol) (item : A → Phrase) (ok : A → Bool) → is_sound separator ≡ true → Each ok item
      → (xs : List A) → Told (list_all ok xs ≡ true) (others separator item xs)
  others_told separator item ok s f [] r r' h t = (stays r r' t, refl)
  others_told separator item ok s f (x ∷ xs) r r' h t =
      let a = then_told (Unit {0}) _ (token separator) (item x then others separator item xs) (this_told separator s)
      (then_told (ok x ≡ true) (list_all ok xs ≡ true) (item x) (others separator item xs) (f x) (others_told separator item ok s f xs)) r r' h t in
      (a.0, both_hold _ _ a.1.1.0 a.1.1.1)

  pub separated_told : {A : Type 0} (separator : Symbol) (item : A → Phrase) (ok : A → Bool) → is_sound separator ≡ true → Each ok item
      → (xs : List A) → Told (list_all ok xs ≡ true) (separated separator item xs)
  separated_told separator item ok s f [] r r' h t = absurd t
  separated_told separator item ok s f (x ∷ xs) r r' h t =
      let a = then_told (ok x ≡ true) (list_all ok xs ≡ true) (item x) (others separator item xs) (f x) (others_told separator item ok s f xs) r r' h t in
      (a.0, both_hold _ _ a.1.0 a.1.1)

  pub each_told : {A : Type 0} (item : A → Phrase) (ok : A → Bool) → Each ok item → (xs : List A) → Told (list_all ok xs ≡ true) (each item xs)
  each_told item ok f [] r r' h t = (stays r r' t, refl)
  each_told item ok f (x ∷ xs) r r' h t =
      let a = then_told (ok x ≡ true) (list_all ok xs ≡ true) (item x) (each item xs) (f x) (each_told item ok f xs) r r' h t in
      (a.0, both_hold _ _ a.1.0 a.1.1)

  -- a token with its piece
  pub word_told : (k : Symbol) → is_sound k ≡ true → (p : Piece) → Told (Unit {0}) (word k p)
  word_told k s p r r' h t = (word_goes k s p r r' t, tt)

  pub name_told : (p : Piece) → Told (is_name (bytes_of bytes p) ≡ true) (word s.Name p)
  name_told p r r' h t =
      (word_goes s.Name refl p r r' t, name_at bytes n r h (subst (λ k. is_word_symbol k ≡ true) (sym t.0) refl) p t.1)

  operator_told : (p : Piece) → Told (is_name (bytes_of bytes p) ≡ true) (word s.Operator p)
  operator_told p r r' h t =
      (word_goes s.Operator refl p r r' t, name_at bytes n r h (subst (λ k. is_word_symbol k ≡ true) (sym t.0) refl) p t.1)

  -- ---- what is told of each form of the tree
  abbrev pub ok_sum : Sum → Bool
  ok_sum t = is_named (term_of_sum bytes t)

  abbrev pub ok_value : Value → Bool
  ok_value t = is_named (value_of bytes t).term

  abbrev ok_product : Product → Bool
  ok_product t = is_named (product_of bytes t)

  abbrev ok_unary : Unary → Bool
  ok_unary t = is_named (unary_of bytes t)

  abbrev ok_primary : Primary → Bool
  ok_primary t = is_named (primary_of bytes t)

  abbrev ok_compare : Compare → Bool
  ok_compare t = is_named (compare_of bytes t)

  abbrev ok_equal : Equal → Bool
  ok_equal t = is_named (equal_of bytes t)

  abbrev ok_and : And → Bool
  ok_and t = is_named (and_of bytes t)

  abbrev ok_or : Or → Bool
  ok_or t = is_named (or_of bytes t)

  pub record ToldForms (f : Forms) : Type 0 where
    pub value : Each ok_value f.value
    pub sum : Each ok_sum f.sum
    pub operand : (signs : List UnarySign) → Each ok_primary (f.operand signs)

  by_is : (a b : Term) → a ≡ b → is_named b ≡ true → is_named a ≡ true
  by_is a b e h = subst (λ t. is_named t ≡ true) (sym e) h

  abbrev OfElement : Element → Type 0
  OfElement e = (is_name e.name ≡ true) × (are_named e.subscripts ≡ true)

  abbrev OfTarget : Target → Type 0
  OfTarget t = OfElement (target_of bytes t)

  module _ (nests : ℕ) (inner : Forms) (told : ToldForms inner) where
    pub subscript_told : Each ok_sum (g.subscript nests inner)
    subscript_told sum r r' h t =
        let a = then_told (Unit {0}) _ (token s.OpenSquare) (inner.sum sum then token s.CloseSquare) (this_told s.OpenSquare refl)
        (then_told (ok_sum sum ≡ true) (Unit {0}) (inner.sum sum) (token s.CloseSquare) (told.sum sum) (this_told s.CloseSquare refl)) r r' h t.1 in
        (a.0, a.1.1.0)

    pub target_told : (t : Target) → Told ((is_name (target_of bytes t).name ≡ true) × (are_named (target_of bytes t).subscripts ≡ true)) (IsTarget nests inner t)
    target_told t r r' h d =
        let a = then_told _ _ (word s.Name d.name) (each (g.subscript nests inner) d.subscripts) (name_told d.name)
        (each_told (g.subscript nests inner) ok_sum subscript_told d.subscripts) r r' h d.derived in (
          a.0,
          subst OfTarget d.is (subst OfElement (sym (target_is bytes (roll-Target (record { name = d.name; subscripts = d.subscripts }))))
              (subst (λ o. (is_name (bytes_of bytes o.name) ≡ true) × (are_named (terms_by (sum_of bytes) o.subscripts) ≡ true)) (sym (out-roll-Target (record { name = d.name; subscripts = d.subscripts })))
              (a.1.0, terms_named (sum_of bytes) d.subscripts a.1.1))),
        )

    arguments_told : (values : List Value) → Told (list_all ok_value values ≡ true) (g.arguments nests inner values)
    arguments_told [] r r' h t = (this_goes s.CloseRound refl r r' t, refl)
    arguments_told (v ∷ more) r r' h t =
        let a = then_told (list_all ok_value (v ∷ more) ≡ true) (Unit {0}) (separated s.Comma inner.value (v ∷ more)) (token s.CloseRound)
        (separated_told s.Comma inner.value ok_value refl told.value (v ∷ more)) (this_told s.CloseRound refl) r r' h t in
        (a.0, a.1.0)

    called_told : (p : Piece) → Told (is_name (bytes_of bytes p) ≡ true) (g.called nests inner p)
    called_told p r r' h (inl t) = name_told p r r' h t
    called_told p r r' h (inr t) = operator_told p r r' h t

    nest_told : (P : Type 0) (d : Phrase) → Told P d → Told P (nest nests d)
    nest_told P d f r r' h t = f r r' h t.1

    primary_told : Each ok_primary (IsPrimary nests inner)
    primary_told t r r' h (g.integer p e w) = (word_goes s.Integer refl p r r' w, subst (λ x. ok_primary x ≡ true) e (by_is _ _ (primary_is bytes (pri.Integer p)) (subst (λ o. is_named (primary_layer bytes o) ≡ true) (sym (pri.outs-Integer p)) refl)))
    primary_told t r r' h (g.literal p e w) = (word_goes s.Literal refl p r r' w, subst (λ x. ok_primary x ≡ true) e (by_is _ _ (primary_is bytes (pri.Literal p)) (subst (λ o. is_named (primary_layer bytes o) ≡ true) (sym (pri.outs-Literal p)) refl)))
    primary_told t r r' h (g.target x e w) =
        let a = target_told x r r' h w in
        (a.0, subst (λ x. ok_primary x ≡ true) e (by_is _ _ (primary_is bytes (pri.Target x)) (subst (λ o. is_named (primary_layer bytes o) ≡ true) (sym (pri.outs-Target x)) (both_hold _ _ a.1.0 a.1.1))))
    primary_told t r r' h (g.call name values e w) =
        let a = then_told _ _ (g.called nests inner name) (nest nests (token s.OpenRound then g.arguments nests inner values)) (called_told name)
        (nest_told _ _ (then_told (Unit {0}) (list_all ok_value values ≡ true) (token s.OpenRound) (g.arguments nests inner values) (this_told s.OpenRound refl) (arguments_told values))) r r' h w in
        (a.0, subst (λ x. ok_primary x ≡ true) e (by_is _ _ (primary_is bytes (pri.Call name values)) (subst (λ o. is_named (primary_layer bytes o) ≡ true) (sym (pri.outs-Call name values)) (both_hold _ _ a.1.0 (terms_named (value_of bytes) values a.1.1.1)))))
    primary_told t r r' h (g.bracket v e w) =
        let a = nest_told _ _ (then_told (Unit {0}) _ (token s.OpenRound) (inner.value v then token s.CloseRound) (this_told s.OpenRound refl)
        (then_told (ok_value v ≡ true) (Unit {0}) (inner.value v) (token s.CloseRound) (told.value v) (this_told s.CloseRound refl))) r r' h w in
        (a.0, subst (λ x. ok_primary x ≡ true) e (by_is _ _ (primary_is bytes (pri.Bracket v)) (subst (λ o. is_named (primary_layer bytes o) ≡ true) (sym (pri.outs-Bracket v)) a.1.1.0)))

    unary_sound : (sign : UnarySign) → is_sound (unary_token sign) ≡ true
    unary_sound un.Plus = refl
    unary_sound un.Minus = refl
    unary_sound un.Not = refl

    operand_told : (signs : List UnarySign) → Each ok_primary (g.operand nests inner signs)
    operand_told [] p r r' h t = primary_told p r r' h t
    operand_told (sign ∷ signs) p r r' h t =
        let a = nest_told _ _ (then_told (Unit {0}) (ok_primary p ≡ true) (token (unary_token sign)) (inner.operand signs p)
        (this_told (unary_token sign) (unary_sound sign)) (told.operand signs p)) r r' h t in
        (a.0, a.1.1)

    unary_told : Each ok_unary (IsUnary nests inner)
    unary_told t r r' h d =
        let a = operand_told d.signs d.primary r r' h d.derived in (
          a.0,
          subst (λ x. ok_unary x ≡ true) d.is (by_is _ _ (unary_is bytes (roll-Unary (record { signs = d.signs; primary = d.primary })))
              (subst (λ o. is_named (all_signed o.signs (primary_of bytes o.primary)) ≡ true) (sym (out-roll-Unary (record { signs = d.signs; primary = d.primary }))) (signed_named d.signs (primary_of bytes d.primary) a.1))),
        )

    product_sound : (sign : ProductSign) → is_sound (product_token sign) ≡ true
    product_sound pr.Times = refl
    product_sound pr.Divide = refl
    product_sound pr.Remainder = refl

    product_told : Each ok_product (IsProduct nests inner)
    product_told t r r' h d =
        let a = then_told (ok_unary d.first ≡ true) _ (IsUnary nests inner d.first) (signed product_token (IsUnary nests inner) d.rest) (unary_told d.first)
        (signed_told product_token (IsUnary nests inner) ok_unary product_sound unary_told d.rest) r r' h d.derived in (
          a.0,
          subst (λ x. ok_product x ≡ true) d.is (by_is _ _ (product_is bytes (roll-Product (record { first = d.first; rest = d.rest })))
              (subst (λ o. is_named (joined_by of_product (unary_of bytes) (unary_of bytes o.first) o.rest) ≡ true) (sym (out-roll-Product (record { first = d.first; rest = d.rest }))) (joined_named of_product (unary_of bytes) (unary_of bytes d.first) d.rest a.1.0 a.1.1))),
        )

    sum_sound : (sign : SumSign) → is_sound (sum_token sign) ≡ true
    sum_sound sm.Plus = refl
    sum_sound sm.Minus = refl

    sum_told : Each ok_sum (IsSum nests inner)
    sum_told t r r' h d =
        let a = then_told (ok_product d.first ≡ true) _ (IsProduct nests inner d.first) (signed sum_token (IsProduct nests inner) d.rest) (product_told d.first)
        (signed_told sum_token (IsProduct nests inner) ok_product sum_sound product_told d.rest) r r' h d.derived in (
          a.0,
          subst (λ x. ok_sum x ≡ true) d.is (by_is _ _ (ap (λ x. x.term) (sum_is bytes (roll-Sum (record { at = start r; first = d.first; rest = d.rest }))))
              (subst (λ o. is_named (joined_by of_sum (product_of bytes) (product_of bytes o.first) o.rest) ≡ true) (sym (out-roll-Sum (record { at = start r; first = d.first; rest = d.rest }))) (joined_named of_sum (product_of bytes) (product_of bytes d.first) d.rest a.1.0 a.1.1))),
        )

    rel_sound : (sign : Rel) → is_sound (rel_token sign) ≡ true
    rel_sound rl.Less = refl
    rel_sound rl.LessEqual = refl
    rel_sound rl.Greater = refl
    rel_sound rl.GreaterEqual = refl

    compare_told : Each ok_compare (IsCompare nests inner)
    compare_told t r r' h d =
        let a = then_told (ok_sum d.first ≡ true) _ (IsSum nests inner d.first) (signed rel_token (IsSum nests inner) d.rest) (sum_told d.first)
        (signed_told rel_token (IsSum nests inner) ok_sum rel_sound sum_told d.rest) r r' h d.derived in (
          a.0,
          subst (λ x. ok_compare x ≡ true) d.is (by_is _ _ (compare_is bytes (roll-Compare (record { first = d.first; rest = d.rest })))
              (subst (λ o. is_named (joined_by of_rel (term_of_sum bytes) (term_of_sum bytes o.first) o.rest) ≡ true) (sym (out-roll-Compare (record { first = d.first; rest = d.rest }))) (joined_named of_rel (term_of_sum bytes) (term_of_sum bytes d.first) d.rest a.1.0 a.1.1))),
        )

    equal_sound : (sign : EqualSign) → is_sound (equal_token sign) ≡ true
    equal_sound eq.Same = refl
    equal_sound eq.Differ = refl

    equal_told : Each ok_equal (IsEqual nests inner)
    equal_told t r r' h d =
        let a = then_told (ok_compare d.first ≡ true) _ (IsCompare nests inner d.first) (signed equal_token (IsCompare nests inner) d.rest) (compare_told d.first)
        (signed_told equal_token (IsCompare nests inner) ok_compare equal_sound compare_told d.rest) r r' h d.derived in (
          a.0,
          subst (λ x. ok_equal x ≡ true) d.is (by_is _ _ (equal_is bytes (roll-Equal (record { first = d.first; rest = d.rest })))
              (subst (λ o. is_named (joined_by of_equal (compare_of bytes) (compare_of bytes o.first) o.rest) ≡ true) (sym (out-roll-Equal (record { first = d.first; rest = d.rest }))) (joined_named of_equal (compare_of bytes) (compare_of bytes d.first) d.rest a.1.0 a.1.1))),
        )

    and_told : Each ok_and (IsAnd nests inner)
    and_told t r r' h d =
        let a = separated_told s.And (IsEqual nests inner) ok_equal refl equal_told d.items r r' h d.derived in
        (a.0, subst (λ x. ok_and x ≡ true) d.is (by_is _ _ (and_is bytes (roll-And (record { items = d.items }))) (subst (λ o. is_named (some_by Conjunction (equal_of bytes) o.items) ≡ true) (sym (out-roll-And (record { items = d.items }))) (some_named Conjunction (equal_of bytes) d.items a.1))))

    or_told : Each ok_or (IsOr nests inner)
    or_told t r r' h d =
        let a = separated_told s.Or (IsAnd nests inner) ok_and refl and_told d.items r r' h d.derived in
        (a.0, subst (λ x. ok_or x ≡ true) d.is (by_is _ _ (or_is bytes (roll-Or (record { items = d.items }))) (subst (λ o. is_named (some_by Disjunction (and_of bytes) o.items) ≡ true) (sym (out-roll-Or (record { items = d.items }))) (some_named Disjunction (and_of bytes) d.items a.1))))

    abbrev OfArms : Option Arms → Type 0
    OfArms t = (test : Term) → is_named test ≡ true → is_named (with_arms bytes test t) ≡ true

    arms_told : (t : Option Arms) → Told (OfArms t) (IsArms nests inner t)
    arms_told t r r' h (g.absent e w) = (stays r r' w, subst OfArms e (λ test q. q))
    arms_told t r r' h (g.present one other e w) =
        let a = nest_told _ _ (then_told (Unit {0}) _ (token s.Question) (inner.value one then token s.Colon then inner.value other) (this_told s.Question refl)
        (then_told (ok_value one ≡ true) _ (inner.value one) (token s.Colon then inner.value other) (told.value one)
        (then_told (Unit {0}) (ok_value other ≡ true) (token s.Colon) (inner.value other) (this_told s.Colon refl) (told.value other)))) r r' h w in (
          a.0,
          subst OfArms e (λ test q. both_hold _ _ q (subst (λ (p : Pair). (is_named p.yes && is_named p.no) ≡ true)
              (sym (arms_is bytes (roll-Arms (record { yes = one; no = other }))))
              (subst (λ o. (is_named (value_of bytes o.yes).term && is_named (value_of bytes o.no).term) ≡ true) (sym (out-roll-Arms (record { yes = one; no = other })))
              (both_hold _ _ a.1.1.0 a.1.1.1.1)))),
        )

    pub value_told : Each ok_value (IsValue nests inner)
    value_told t r r' h d =
        let a = then_told (ok_or d.test ≡ true) (OfArms d.arms) (IsOr nests inner d.test) (IsArms nests inner d.arms) (or_told d.test) (arms_told d.arms) r r' h d.derived in (
          a.0,
          subst (λ x. ok_value x ≡ true) d.is (by_is _ _ (ap (λ x. x.term) (value_is bytes (roll-Value (record { at = start r; test = d.test; arms = d.arms }))))
              (subst (λ o. is_named (with_arms bytes (or_of bytes o.test) o.arms) ≡ true) (sym (out-roll-Value (record { at = start r; test = d.test; arms = d.arms })))
              (a.1.1 (or_of bytes d.test) a.1.0))),
        )

    pub forms_told : ToldForms (forms nests inner)
    forms_told = record { value = value_told; sum = sum_told; operand = operand_told }

  nothing_told : ToldForms no_forms
  nothing_told = record { value = λ t r r' h d. absurd d; sum = λ t r r' h d. absurd d; operand = λ signs p r r' h d. absurd d }

  pub nested_told : (nests : ℕ) → ToldForms (nested nests)
  nested_told zero = nothing_told
  nested_told (suc nests) = forms_told nests (nested nests) (nested_told nests)
