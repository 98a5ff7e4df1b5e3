-- A point lies in a part where all its constraints hold.
use Rattle.std.proofs.Common.{◌≡◌, ℕ, zero, suc, ◌+◌, List, [], ◌∷◌, ◌++◌, length, map, Bool, true, false, cond, refl, sym, ◌∙◌, ap, subst, arith, append_assoc, ℤ, pos, ◌+ℤ◌, ◌*ℤ◌}
use Rattle.std.specs.Prelude.{◌↔◌}
use Rattle.std.proofs.lemmas.Int.{ints}
use Rattle.std.proofs.lemmas.List.{length-append}
use Rattle.row_core.specs.Rows.{dot}
use Rattle.relation_core.specs.Points.{Meets, MeetsAll, coordinates, LiesIn, LiesInSome}
use Rattle.relation_core.specs.declared.part_rows.PartRow.{PartRow}
use Rattle.scop_core.specs.SolvedRows.{zeros}
use Rattle.scop_core.specs.Meaning.{affine_at}
use Rattle.schedule_forms.proofs.SolvedDots.{dot_append, row_value}
use Rattle.clan_extract.specs.Constraints.{FormRow, Constraint}
use Rattle.clan_extract.specs.Scops.{padded, locals_in, local_columns, part_row, part_rows, part}
use Rattle.clan_extract.proofs.Forms.{dot_zeros}
use Rattle.clan_extract.proofs.Bounds.{length_zeros}
use Rattle.clan_extract.proofs.Conditions.{either}
use Rattle.clan_extract.proofs.Holding.{RowsHold, HoldsBy, AllHold, SomeHolds}

length_padded : (d : ℕ) (row : List ℤ) → length (padded d row) ≡ d
length_padded zero row = refl
length_padded (suc d) [] = omega (arith, length_padded d [])
length_padded (suc d) (c ∷ row) = omega (arith, length_padded d row)

dot_padded : (d : ℕ) (row x : List ℤ) → length x ≡ d → dot (padded d row) x ≡ dot row x
dot_padded zero [] x e = refl
dot_padded zero (c ∷ row) [] e = refl
dot_padded zero (c ∷ row) (v ∷ x) e = absurd (omega (arith, e))
dot_padded (suc d) [] [] e = absurd (omega (arith, e))
dot_padded (suc d) [] (v ∷ x) e = let same : length x ≡ d = omega (arith, e) in omega (arith, ints, dot_padded d [] x same)
dot_padded (suc d) (c ∷ row) [] e = absurd (omega (arith, e))
dot_padded (suc d) (c ∷ row) (v ∷ x) e = let same : length x ≡ d = omega (arith, e) in ap (λ z. (c *ℤ v) +ℤ z) (dot_padded d row x same)

dot_nothing : (a : List ℤ) → dot a [] ≡ pos 0
dot_nothing [] = refl
dot_nothing (c ∷ a) = refl

-- the own local's value is read from the columns of locals
own_local : (before behind : ℕ) (pre post : List ℤ) (c l : ℤ) → length pre ≡ before → dot (local_columns before behind true c) (pre ++ l ∷ post) ≡ c *ℤ l
own_local before behind pre post c l e =
    omega (arith, ints, dot_append (zeros before) (c ∷ zeros behind) pre (l ∷ post) (length_zeros before ∙ sym e), dot_zeros before pre, dot_zeros behind post)

length_columns : (before behind : ℕ) (b : Bool) (c : ℤ) → length (local_columns before behind b c) ≡ before + (cond b 1 0 + behind)
length_columns before behind true c = omega (arith, length-append (zeros before) (c ∷ zeros behind), length_zeros before, length_zeros behind)
length_columns before behind false c = omega (arith, length_zeros (before + behind))

pub meets_append : (a b : List PartRow) (point : List ℤ) → MeetsAll (a ++ b) point ↔ (MeetsAll a point × MeetsAll b point)
meets_append [] b point = (λ h. (tt, h), λ h. h.1)
meets_append (r ∷ a) b point =
    let rest = meets_append a b point in
    (λ h. (let t = rest.0 h.1 in ((h.0, t.0), t.1)), λ h. (h.0.0, rest.1 (h.0.1, h.1)))

-- at iterators x and parameters n
module _ (x n : List ℤ) where
  -- the rows of one constraint, where the columns of the locals read l
  module _ (columns : ℤ → List ℤ) (locals : List ℤ) (l : ℤ) (size : (c : ℤ) → length (columns c) ≡ length locals) (reads : (c : ℤ) → dot (columns c) locals ≡ c *ℤ l) where
    row_has : (r : FormRow) → dot (part_row (length x) (length n) columns r).entries (coordinates x [] locals n) ≡ affine_at r.form x [] n +ℤ (r.local *ℤ l)
    row_has r =
        row_value (record { outputs = length x; inputs = 0; locals = length locals; parameters = length n })
        (padded (length x) r.form.iterators) [] (columns r.local) (padded (length n) r.form.parameters) r.form.constant x [] locals n
        (record { outputs_are = length_padded (length x) r.form.iterators; iterators_are = refl; floors_are = size r.local; parameters_are = length_padded (length n) r.form.parameters })
        (record { outputs_are = refl; inputs_are = refl; locals_are = refl; parameters_are = refl })
        ∙ omega (arith, ints, dot_padded (length x) r.form.iterators x refl, dot_padded (length n) r.form.parameters n refl, dot_nothing r.form.floors, reads r.local)

    rows_have : (rows : List FormRow) → MeetsAll (map (part_row (length x) (length n) columns) rows) (coordinates x [] locals n) ↔ RowsHold rows l x n
    rows_have [] = (λ h. tt, λ h. tt)
    rows_have (r ∷ rows) =
        let rest = rows_have rows in
        (λ h. (subst (λ z. Meets r.kind z) (row_has r) h.0, rest.0 h.1), λ h. (subst (λ z. Meets r.kind z) (sym (row_has r)) h.0, rest.1 h.1))

  abbrev RowsOf : ℕ → ℕ → Bool → List FormRow → List ℤ → Type 0
  RowsOf k behind b rows locals = MeetsAll (map (part_row (length x) (length n) (local_columns k behind b)) rows) (coordinates x [] locals n)

  with_local : (k behind : ℕ) (rows : List FormRow) (pre post locals : List ℤ) (l : ℤ) → length pre ≡ k → length post ≡ behind → locals ≡ pre ++ l ∷ post
      → RowsOf k behind true rows locals ↔ RowsHold rows l x n
  with_local k behind rows pre post locals l e f is =
      rows_have (local_columns k behind true) locals l
      (λ c. length_columns k behind true c ∙ omega (arith, e, f, length-append pre (l ∷ post)) ∙ ap length (sym is))
      (λ c. ap (λ ls. dot (local_columns k behind true c) ls) is ∙ own_local k behind pre post c l e) rows

  without_local : (k behind : ℕ) (rows : List FormRow) (locals : List ℤ) → length locals ≡ k + behind → RowsOf k behind false rows locals ↔ RowsHold rows (pos 0) x n
  without_local k behind rows locals e =
      rows_have (local_columns k behind false) locals (pos 0)
      (λ c. length_columns k behind false c ∙ omega (arith, e))
      (λ c. omega (arith, ints, dot_zeros (k + behind) locals)) rows

  -- all constraints hold where their rows are met, with locals for those before them
  meets_into : (cs : List Constraint) (k : ℕ) (pre post locals : List ℤ) → length pre ≡ k → length post ≡ locals_in cs → locals ≡ pre ++ post
      → MeetsAll (part_rows (length x) (length n) k cs) (coordinates x [] locals n) → AllHold cs x n
  meets_into [] k pre post locals e f is h = tt
  meets_into (c ∷ cs) k pre post locals e f is h = by c.has_local post f is h (λ k' pre' post' e' f' is'. meets_into cs k' pre' post' locals e' f' is')
    where
      by : (b : Bool) (post : List ℤ) → length post ≡ cond b 1 0 + locals_in cs → locals ≡ pre ++ post
          → MeetsAll (map (part_row (length x) (length n) (local_columns k (locals_in cs) b)) c.rows ++ part_rows (length x) (length n) (k + cond b 1 0) cs) (coordinates x [] locals n)
          → ((k' : ℕ) (pre' post' : List ℤ) → length pre' ≡ k' → length post' ≡ locals_in cs → locals ≡ pre' ++ post'
          → MeetsAll (part_rows (length x) (length n) k' cs) (coordinates x [] locals n) → AllHold cs x n)
          → HoldsBy b c.rows x n × AllHold cs x n
      by true [] f is h rest = absurd (omega (arith, f))
      by true (l ∷ post) f is h rest =
          let t = (meets_append (map (part_row (length x) (length n) (local_columns k (locals_in cs) true)) c.rows) (part_rows (length x) (length n) (k + 1) cs) (coordinates x [] locals n)).0 h in
          let same : length post ≡ locals_in cs = omega (arith, f) in (
            (l, (with_local k (locals_in cs) c.rows pre post locals l e same is).0 t.0),
            rest (k + 1) (pre ++ l ∷ []) post (omega (arith, e, length-append pre (l ∷ []))) same (is ∙ sym (append_assoc pre (l ∷ []) post)) t.1,
          )
      by false post f is h rest =
          let t = (meets_append (map (part_row (length x) (length n) (local_columns k (locals_in cs) false)) c.rows) (part_rows (length x) (length n) (k + 0) cs) (coordinates x [] locals n)).0 h in
          let same : length post ≡ locals_in cs = omega (arith, f) in
          let size : length locals ≡ k + locals_in cs = ap length is ∙ omega (arith, e, same, length-append pre post) in
          ((without_local k (locals_in cs) c.rows locals size).0 t.0, rest (k + 0) pre post (omega (arith, e)) same is t.1)

  -- locals that meet the rows, whatever stands before them
  record Filled (cs : List Constraint) : Type 0 where
    pub post : List ℤ
    pub size : length post ≡ locals_in cs
    pub meets : (k : ℕ) (pre locals : List ℤ) → length pre ≡ k → locals ≡ pre ++ post → MeetsAll (part_rows (length x) (length n) k cs) (coordinates x [] locals n)

  abbrev FilledBy : List FormRow → List Constraint → Bool → Type 0
  FilledBy rows cs b = (post : List ℤ) × (length post ≡ cond b 1 0 + locals_in cs)
      × ((k : ℕ) (pre locals : List ℤ) → length pre ≡ k → locals ≡ pre ++ post
      → MeetsAll (map (part_row (length x) (length n) (local_columns k (locals_in cs) b)) rows ++ part_rows (length x) (length n) (k + cond b 1 0) cs) (coordinates x [] locals n))

  filled : (cs : List Constraint) → AllHold cs x n → Filled cs
  filled [] h = record { post = []; size = refl; meets = λ k pre locals e is. tt }
  filled (c ∷ cs) h = let f = by c.has_local h.0 (filled cs h.1) in record { post = f.0; size = f.1; meets = f.2 }
    where
      by : (b : Bool) → HoldsBy b c.rows x n → Filled cs → FilledBy c.rows cs b
      by true h rest = (
        h.0 ∷ rest.post,
        omega (arith, rest.size),
        λ k pre locals e is.
            (meets_append (map (part_row (length x) (length n) (local_columns k (locals_in cs) true)) c.rows) (part_rows (length x) (length n) (k + 1) cs) (coordinates x [] locals n)).1 (
              (with_local k (locals_in cs) c.rows pre rest.post locals h.0 e rest.size is).1 h.1,
              rest.meets (k + 1) (pre ++ h.0 ∷ []) locals (omega (arith, e, length-append pre (h.0 ∷ []))) (is ∙ sym (append_assoc pre (h.0 ∷ []) rest.post)),
            ),
      )
      by false h rest = (
        rest.post,
        omega (arith, rest.size),
        λ k pre locals e is. (
            let size : length locals ≡ k + locals_in cs = ap length is ∙ omega (arith, e, rest.size, length-append pre rest.post) in
            (meets_append (map (part_row (length x) (length n) (local_columns k (locals_in cs) false)) c.rows) (part_rows (length x) (length n) (k + 0) cs) (coordinates x [] locals n)).1
            ((without_local k (locals_in cs) c.rows locals size).1 h, rest.meets (k + 0) pre locals (omega (arith, e)) is)),
      )

  -- a point lies in a part where all constraints hold
  pub lies_in_part : (cs : List Constraint) → LiesIn (part (length x) (length n) cs) x [] n ↔ AllHold cs x n
  lies_in_part cs = (
    λ d. meets_into cs 0 [] d.locals d.locals refl d.locals_are refl d.meets,
    λ h. (let f = filled cs h in record { outputs_are = refl; inputs_are = refl; parameters_are = refl; locals = f.post; locals_are = f.size; meets = f.meets 0 [] f.post refl refl }),
  )

  pub lies_in_some : (ps : List (List Constraint)) → LiesInSome (map (part (length x) (length n)) ps) x [] n ↔ SomeHolds ps x n
  lies_in_some [] = (λ h. h, λ h. h)
  lies_in_some (p ∷ ps) = (either (lies_in_part p).0 (lies_in_some ps).0, either (lies_in_part p).1 (lies_in_some ps).1)
