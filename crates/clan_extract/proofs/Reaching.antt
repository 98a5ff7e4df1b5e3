-- The values at which an assignment is reached are its domain.
use Rattle.std.proofs.Common.{◌≡◌, inl, inr, ℕ, List, [], ◌∷◌, ◌++◌, length, map, Bool, true, ◌&&◌, refl, sym, ◌∙◌, ap, subst, arith, append_assoc, ℤ}
use Rattle.std.specs.Prelude.{◌↔◌}
use Rattle.std.proofs.lemmas.List.{map-append}
use Rattle.scop_core.specs.Sequences.{In}
use Rattle.scop_core.specs.Meaning.{InDomain}
use Rattle.relation_core.specs.Points.{LiesInSome}
use Rattle.clan_extract.specs.Execution.{Binding, Setting, value_of, truth_of, loop_values}
use Rattle.clan_extract.specs.Placements.{Head, Round, Loop, Test, Placed, loop_names}
use Rattle.clan_extract.specs.Constraints.{loop_constraints, parts_of, parts_of_condition}
use Rattle.clan_extract.specs.Scops.{part, statement, is_head, is_condition}
use Rattle.clan_extract.proofs.Forms.{both_true, names, values}
use Rattle.clan_extract.proofs.Holding.{AllHold, SomeHolds}
use Rattle.clan_extract.proofs.Turns.{loop_has}
use Rattle.clan_extract.proofs.Conditions.{some_joined, condition_has}
use Rattle.clan_extract.proofs.PartRows.{lies_in_some}

abbrev pub running : List ℕ → ℤ → Binding
running name value = record { name = name; value = value }

-- the values of a loop inside these loops
abbrev pub values_of_head : Setting → List Binding → Head → List ℤ
values_of_head setting loops h = loop_values h.comparison (value_of setting loops h.start) (value_of setting loops h.bound) h.step

-- what stands round an assignment lets it run at these values, one for each loop
abbrev pub Reached : Setting → List Binding → List Round → List ℤ → Type 0
Reached setting loops [] [] = Unit {0}
Reached setting loops [] (v ∷ x) = ⊥
Reached setting loops (Loop h ∷ rounds) [] = ⊥
Reached setting loops (Loop h ∷ rounds) (v ∷ x) = In v (values_of_head setting loops h) × Reached setting (loops ++ running h.name v ∷ []) rounds x
Reached setting loops (Test truth c ∷ rounds) x = (truth_of setting loops c ≡ truth) × Reached setting loops rounds x

-- what stands round an assignment is such as can be translated
abbrev pub are_rounds : List Round → Bool
are_rounds [] = true
are_rounds (Loop h ∷ rounds) = is_head h && are_rounds rounds
are_rounds (Test truth c ∷ rounds) = is_condition c && are_rounds rounds

module _ (setting : Setting) where
  pub reached_length : (loops : List Binding) (rounds : List Round) (x : List ℤ) → Reached setting loops rounds x → length x ≡ length (loop_names rounds)
  reached_length loops [] [] h = refl
  reached_length loops [] (v ∷ x) h = absurd h
  reached_length loops (Loop head ∷ rounds) [] h = absurd h
  reached_length loops (Loop head ∷ rounds) (v ∷ x) h = omega (arith, reached_length (loops ++ running head.name v ∷ []) rounds x h.1)
  reached_length loops (Test truth c ∷ rounds) x h = reached_length loops rounds x h.1

  abbrev Some : List Binding → List Round → List ℤ → Type 0
  Some loops rounds y = SomeHolds (parts_of setting.parameters (names loops) rounds) y setting.values

  pub parts_have : (loops : List Binding) (rounds : List Round) (x : List ℤ) → are_rounds rounds ≡ true → length x ≡ length (loop_names rounds)
      → Some loops rounds (values loops ++ x) ↔ Reached setting loops rounds x
  parts_have loops [] [] h e = (λ p. tt, λ p. inl tt)
  parts_have loops [] (v ∷ x) h e = absurd (omega (arith, e))
  parts_have loops (Loop head ∷ rounds) [] h e = absurd (omega (arith, e))
  parts_have loops (Loop head ∷ rounds) (v ∷ x) h e =
      let t = both_true (is_head head) (are_rounds rounds) h in
      let inside : List Binding = loops ++ running head.name v ∷ [] in
      let same : length x ≡ length (loop_names rounds) = omega (arith, e) in
      let rest = parts_have inside rounds x t.1 same in
      let turn = loop_has setting loops v x head t.0 in
      let y : List ℤ = values loops ++ v ∷ x in
      let rule = some_joined (loop_constraints setting.parameters (names loops) head ∷ []) (parts_of setting.parameters (names loops ++ head.name ∷ []) rounds) y setting.values in
      let names_are : names inside ≡ names loops ++ head.name ∷ [] = map-append (λ b. b.name) loops (running head.name v ∷ []) in
      let values_are : values inside ++ x ≡ y = ap (λ l. l ++ x) (map-append (λ b. b.value) loops (running head.name v ∷ [])) ∙ append_assoc (values loops) (v ∷ []) x in
      let P : List (List ℕ) → List ℤ → Type 0 = λ l z. SomeHolds (parts_of setting.parameters l rounds) z setting.values in
      let there : P (names inside) (values inside ++ x) → P (names loops ++ head.name ∷ []) y = λ p. subst (λ z. P (names loops ++ head.name ∷ []) z) values_are (subst (λ l. P l (values inside ++ x)) names_are p) in
      let back : P (names loops ++ head.name ∷ []) y → P (names inside) (values inside ++ x) = λ p. subst (λ z. P (names inside) z) (sym values_are) (subst (λ l. P l y) (sym names_are) p) in (
        λ p. (let u = rule.0 p in (turn.0 (alone (loop_constraints setting.parameters (names loops) head) y u.0), rest.0 (back u.1))),
        λ p. rule.1 (inl (turn.1 p.0), there (rest.1 p.1)),
      )
    where
      alone : (cs : _) (y : List ℤ) → SomeHolds (cs ∷ []) y setting.values → AllHold cs y setting.values
      alone cs y (inl a) = a
      alone cs y (inr a) = absurd a
  parts_have loops (Test truth c ∷ rounds) x h e =
      let t = both_true (is_condition c) (are_rounds rounds) h in
      let rest = parts_have loops rounds x t.1 e in
      let rule = some_joined (parts_of_condition setting.parameters (names loops) truth c) (parts_of setting.parameters (names loops) rounds) (values loops ++ x) setting.values in
      let turn = condition_has setting loops x c truth t.0 in
      (λ p. (let u = rule.0 p in (turn.0 u.0, rest.0 u.1)), λ p. rule.1 (turn.1 p.0, rest.1 p.1))

  -- the domain of the statement of an assignment is where it is reached
  pub domain_is : length setting.values ≡ length setting.parameters → (p : Placed) (x : List ℤ) → are_rounds p.rounds ≡ true
      → InDomain (statement setting.parameters setting.arrays p) x setting.values ↔ Reached setting [] p.rounds x
  domain_is e p x h =
      let Q : ℕ → ℕ → Type 0 = λ d k. LiesInSome (map (part d k) (parts_of setting.parameters [] p.rounds)) x [] setting.values in
      let rule = lies_in_some x setting.values (parts_of setting.parameters [] p.rounds) in (
        λ d. (parts_have [] p.rounds x h d.0).0 (rule.0 (subst (λ k. Q (length x) k) (sym e) (subst (λ k. Q k (length setting.parameters)) (sym d.0) d.1))),
        λ r. (let l = reached_length [] p.rounds x r in
            (l, subst (λ k. Q k (length setting.parameters)) l (subst (λ k. Q (length x) k) e (rule.1 ((parts_have [] p.rounds x h l).1 r))))),
      )
