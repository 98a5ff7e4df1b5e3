-- An assignment of a walk is taken as the statement that it is in the SCoP.
use Rattle.std.proofs.Common.{◌≡◌, ℕ, ◌+◌, ◌≤◌, ◌<◌, List, [], ◌∷◌, ◌++◌, length, map, Bool, true, false, ◌&&◌, not, cond, refl, sym, ◌∙◌, ap, arith, ℤ, pos}
use Rattle.std.specs.Prelude.{min, nat_lt, nat_le, Option, None, Some, if◌then◌else◌, is_none}
use Rattle.std.proofs.lemmas.Bool.Decides.{Decides-ltb}
use Rattle.suite_base.specs.declared.refusals.Refusal.{Refusal}
use Rattle.suite_base.specs.declared.refusals.Refusal.TheVariants.{Limit, TooManyParts, Overflow}
use Rattle.suite_base.specs.declared.refusals.Which.TheVariants.{Locals, Rows, Accesses as AccessCount, Subscripts}
use Rattle.suite_base.specs.declared.refusals.Where.TheVariants.{Statement as OfStatement}
use Rattle.relation_core.specs.Systems.{System}
use Rattle.scop_data.specs.declared.affines.Affine.{Affine}
use Rattle.scop_data.specs.declared.accesses.Access.{Access}
use Rattle.scop_data.specs.declared.accesses.AccessKind.TheVariants.{Read, Write}
use Rattle.scop_data.specs.declared.statements.Statement.{Statement}
use Rattle.scop_data.specs.declared.raw_pieces.RawStatement.{RawStatement}
use Rattle.scop_data.specs.Pieces.{statement_pieces}
use Rattle.scop_core.specs.declared.limits.PartCount.TheVariants.{LocalCount, RowCount}
use Rattle.scop_core.specs.Assembly.{or_else, some_above}
use Rattle.scop_core.proofs.ReadBackPieces.{if_none, not_above, neither}
use Rattle.clan_extract.specs.Regions.{Reference, Assignment}
use Rattle.clan_extract.specs.Placements.{Round, Placed, loop_names, directions}
use Rattle.clan_extract.specs.Constraints.{Constraint, parts_of}
use Rattle.clan_extract.specs.Counts.{Count, rounds_count, HasCounts}
use Rattle.clan_extract.specs.Scops.{locals_in, part, levels, references_read, accesses, statement}
use Rattle.clan_extract.specs.Refusals.{fits, rounds_fit, references_fit, subscripts_above, statement_refusal}
use Rattle.clan_extract.specs.RowRanges.{constraints_of_rounds_fit}
use Rattle.clan_extract.proofs.Forms.{both_true}
use Rattle.clan_extract.proofs.Counts.{parts_are_counted}
use Rattle.clan_extract.proofs.RowRanges.{rows_fit_once}
use Rattle.clan_rows.specs.Fitting.{checked_form}
use Rattle.clan_rows.specs.Layers.{LayerData, within}
use Rattle.clan_walk.specs.declared.gathering.Accesses.{Accesses}
use Rattle.clan_walk.specs.declared.turns.Turn.{Turn}
use Rattle.clan_walk.specs.Walk.{State, no_accesses, are_narrow, are_fine, with_access, last_or, no_layer, signs, assignment_refusal, refusal_here, pieces_here, statement_at, assigned, referred, read}
use Rattle.clan_walk.proofs.Around.{fits_of, rounds_layer}
use Rattle.clan_walk.proofs.Gathered.{bare, summed, gathered, all_gathered, le_not_lt}
use Rattle.clan_walk.proofs.Takings.{Taken, betas_of, can_take, refusal_then, pieces_then, take, place_with, place}

-- a count that is cut one past its limit passes the limit where it did
pub clip_test : (m n : ℕ) → nat_lt m (min n (m + 1)) ≡ nat_lt m n
clip_test m n = by (nat_lt m (min n (m + 1))) (nat_lt m n) refl refl
  where
    no : (b : Bool) → b ≡ true → b ≡ false → ⊥
    no b p q = cc

    by : (s t : Bool) → nat_lt m (min n (m + 1)) ≡ s → nat_lt m n ≡ t → s ≡ t
    by true true e f = refl
    by false false e f = refl
    by true false e f = let l : m < min n (m + 1) = (Decides-ltb m (min n (m + 1))).0 e in absurd (no (nat_lt m n) ((Decides-ltb m n).1 (omega (arith, l))) f)
    by false true e f = let l : m < n = (Decides-ltb m n).0 f in absurd (no (nat_lt m (min n (m + 1))) ((Decides-ltb m (min n (m + 1))).1 (omega (arith, l))) e)

not_not : (b : Bool) → not (not b) ≡ b
not_not true = refl
not_not false = refl

not_false : (b : Bool) → not b ≡ false → b ≡ true
not_false true h = refl
not_false false h = sym h

within_limit : (m n : ℕ) → nat_lt m n ≡ false → nat_le n m ≡ true
within_limit m n h = le_not_lt n m ∙ ap not h

and_true : (a b : Bool) → a ≡ true → b ≡ true → (a && b) ≡ true
and_true true b p q = q
and_true false b p q = p

exchanged : (f c a : Bool) → ((f && c) && a) ≡ (f && (a && c))
exchanged true true true = refl
exchanged true true false = refl
exchanged true false true = refl
exchanged true false false = refl
exchanged false c a = refl

-- a refusal by its tests, in their order
refusal_by : ℕ → Bool → Bool → Bool → Bool → Bool → Bool → Option Refusal
refusal_by k a b c d e f =
    if a then Some (Limit AccessCount k)
    else (if b then Some (Limit Subscripts k)
    else (if c then Some (TooManyParts k)
    else (if d then Some (Limit Rows k)
    else (if e then Some (Limit Locals k)
    else (if f then Some (Overflow OfStatement k) else None)))))

same_refusal : (k : ℕ) (a b c d e f p q r s t u : Bool) → a ≡ p → b ≡ q → c ≡ r → d ≡ s → e ≡ t → f ≡ u → refusal_by k a b c d e f ≡ refusal_by k p q r s t u
same_refusal k a b c d e f p q r s t u i j l m n o =
    ap (λ z. refusal_by k z b c d e f) i ∙ ap (λ z. refusal_by k p z c d e f) j ∙ ap (λ z. refusal_by k p q z d e f) l
    ∙ ap (λ z. refusal_by k p q r z e f) m ∙ ap (λ z. refusal_by k p q r s z f) n ∙ ap (λ z. refusal_by k p q r s t z) o

statement_with : List (List ℕ) → List ℕ → List System → List Affine → List ℤ → List Access → Statement
statement_with loops text domain levels betas accesses = record {
  domain = domain;
  schedule = record { floors = []; levels = levels; betas = betas };
  accesses = accesses;
  body = record { text = text; iterators = loops };
  extensions = [];
}

module _ (parameters arrays : List (List ℕ)) where
  -- the turns and layers are those of the rounds
  pub record IsRound (rounds : List Round) (turns : List Turn) (layers : List LayerData) : Type 0 where
    pub signs_are : signs turns ≡ directions rounds
    pub around_is : last_or no_layer layers ≡ rounds_layer parameters rounds

  module _ (rounds : List Round) (turns : List Turn) (next : ℕ) (layers : List LayerData) (out : Taken) (round : IsRound rounds turns layers) (a : Assignment) where
    abbrev loops : List (List ℕ)
    loops = loop_names rounds

    abbrev p : Placed
    p = record { betas = betas_of turns ++ next ∷ []; rounds = rounds; assignment = a }

    abbrev s : Statement
    s = statement parameters arrays p

    abbrev making : Bool
    making = can_take parameters arrays out && nat_le (length loops) 12

    abbrev fit : Bool
    fit = references_fit parameters loops (a.target ∷ a.right)

    abbrev all : Accesses
    all = summed parameters arrays loops making s.accesses fit

    abbrev here : State
    here = place_with parameters arrays loops turns next layers all out

    counts : HasCounts (rounds_count rounds) s.domain
    counts = parts_are_counted parameters arrays p

    fits_is : (fits_of parameters rounds && fit) ≡ fits parameters arrays p
    fits_is =
        exchanged (rounds_fit parameters [] rounds) (constraints_of_rounds_fit parameters [] rounds) fit
        ∙ ap (λ t. rounds_fit parameters [] rounds && (fit && t)) (sym (rows_fit_once parameters arrays p))

    by_rounds : assignment_refusal (out.number + 1) (rounds_layer parameters rounds) all ≡ statement_refusal parameters arrays (out.number + 1) p
    unfolding rounds_layer refusal_by
    by_rounds =
        let c : Count = rounds_count rounds in
        same_refusal (out.number + 1) (nat_lt 256 (min (length s.accesses) 257)) (not (not (subscripts_above s.accesses))) (nat_lt 64 (min c.parts 65)) (nat_lt 256 (min c.rows 257)) (nat_lt 24 (min c.locals 25))
        (not (fits_of parameters rounds && fit))
        (nat_lt 256 (length s.accesses)) (subscripts_above s.accesses) (nat_lt 64 (length s.domain)) (some_above RowCount 256 s.domain) (some_above LocalCount 24 s.domain) (not (fits parameters arrays p))
        (clip_test 256 (length s.accesses)) (not_not (subscripts_above s.accesses))
        (clip_test 64 c.parts ∙ ap (λ n. nat_lt 64 n) (sym counts.parts))
        (clip_test 256 c.rows ∙ sym (counts.rows 256))
        (clip_test 24 c.locals ∙ sym (counts.locals 24))
        (ap not fits_is)

    refusal_is : refusal_here here ≡ refusal_then parameters arrays p out
    refusal_is =
        ap (λ l. cond (can_take parameters arrays out) (assignment_refusal (out.number + 1) l all) None) round.around_is
        ∙ ap (λ r. cond (can_take parameters arrays out) r None) by_rounds

    -- what holds where nothing is refused
    record Fine : Type 0 where
      pub accesses_few : nat_lt 256 (length s.accesses) ≡ false
      pub subscripts_few : subscripts_above s.accesses ≡ false
      pub parts_few : nat_lt 64 (length s.domain) ≡ false
      pub rows_few : some_above RowCount 256 s.domain ≡ false
      pub locals_few : some_above LocalCount 24 s.domain ≡ false
      pub all_fit : fits parameters arrays p ≡ true

    fine : statement_refusal parameters arrays (out.number + 1) p ≡ None → Fine
    fine none =
        let a = if_none _ _ _ none in
        let b = if_none _ _ _ a.1 in
        let c = if_none _ _ _ b.1 in
        let d = if_none _ _ _ c.1 in
        let e = if_none _ _ _ d.1 in
        let f = if_none _ _ _ e.1 in
        record { accesses_few = a.0; subscripts_few = b.0; parts_few = c.0; rows_few = d.0; locals_few = e.0; all_fit = not_false _ f.0 }

    parts_are : Fine → (rounds_layer parameters rounds).parts ≡ parts_of parameters [] rounds
    unfolding rounds_layer
    parts_are h =
        let c : Count = rounds_count rounds in
        ap (λ t. cond t (parts_of parameters [] rounds) [])
        (and_true (within c) (fits_of parameters rounds)
        (and_true (nat_le c.parts 64) (nat_le c.rows 256 && nat_le c.locals 24) (within_limit 64 c.parts (ap (λ n. nat_lt 64 n) (sym counts.parts) ∙ h.parts_few))
        (and_true (nat_le c.rows 256) (nat_le c.locals 24) (within_limit 256 c.rows (sym (counts.rows 256) ∙ h.rows_few)) (within_limit 24 c.locals (sym (counts.locals 24) ∙ h.locals_few))))
        (both_true (fits_of parameters rounds) fit (fits_is ∙ h.all_fit)).0)

    accesses_are : making ≡ true → Fine → all.made ≡ s.accesses
    accesses_are m h =
        ap (λ t. cond t s.accesses [])
        (and_true making (are_fine (bare parameters arrays loops s.accesses fit)) m
        (and_true (nat_le (min (length s.accesses) 257) 256) (not (subscripts_above s.accesses) && fit)
        (within_limit 256 (min (length s.accesses) 257) (clip_test 256 (length s.accesses) ∙ h.accesses_few))
        (and_true (not (subscripts_above s.accesses)) fit (ap not h.subscripts_few) (both_true (fits_of parameters rounds) fit (fits_is ∙ h.all_fit)).1)))

    betas_are : (ts : List Turn) → map (λ t. pos t.beta) ts ++ pos next ∷ [] ≡ map (λ b. pos b) (betas_of ts ++ next ∷ [])
    betas_are [] = refl
    betas_are (t ∷ ts) = ap (λ bs. pos t.beta ∷ bs) (betas_are ts)

    statement_is : making ≡ true → Fine → statement_at a.text here ≡ s
    unfolding statement_with
    statement_is m h =
        let k : ℕ = length parameters in
        let n : ℕ = length loops in
        ap (λ l. statement_with loops a.text (map (part n k) l.parts) (levels k (signs turns)) (map (λ t. pos t.beta) turns ++ pos next ∷ []) all.made) round.around_is
        ∙ ap (λ ps. statement_with loops a.text (map (part n k) ps) (levels k (signs turns)) (map (λ t. pos t.beta) turns ++ pos next ∷ []) all.made) (parts_are h)
        ∙ ap (λ ds. statement_with loops a.text s.domain (levels k ds) (map (λ t. pos t.beta) turns ++ pos next ∷ []) all.made) round.signs_are
        ∙ ap (λ bs. statement_with loops a.text s.domain s.schedule.levels bs all.made) (betas_are turns)
        ∙ ap (λ xs. statement_with loops a.text s.domain s.schedule.levels s.schedule.betas xs) (accesses_are m h)

    narrow_parts : (ps : List (List Constraint)) → some_above LocalCount 24 (map (part (length loops) (length parameters)) ps) ≡ false → are_narrow ps ≡ true
    narrow_parts [] h = refl
    narrow_parts (q ∷ ps) h =
        let t = neither (nat_lt 24 (locals_in q)) (some_above LocalCount 24 (map (part (length loops) (length parameters)) ps)) h in
        and_true (nat_le (locals_in q) 24) (are_narrow ps) (within_limit 24 (locals_in q) t.0) (narrow_parts ps t.1)

    narrow_here : Fine → are_narrow (last_or no_layer layers).parts ≡ true
    narrow_here h = ap (λ l. are_narrow l.parts) round.around_is ∙ ap are_narrow (parts_are h) ∙ narrow_parts (parts_of parameters [] rounds) h.locals_few

    pieces_are : pieces_here a.text here ≡ pieces_then parameters arrays p out
    pieces_are =
        ap (λ r. cond ((making && are_narrow (last_or no_layer layers).parts) && is_none r) (statement_pieces (length parameters) (statement_at a.text here) ∷ []) []) refusal_is
        ∙ by making (is_none (refusal_then parameters arrays p out)) refl refl
      where
        none_is : (r : Option Refusal) → is_none r ≡ true → r ≡ None
        none_is None h = refl
        none_is (Some r) h = absurd (no h)
          where
            no : false ≡ true → ⊥
            no q = cc

        nothing : (b : Bool) (x : List RawStatement) → cond (b && false) x [] ≡ []
        nothing true x = refl
        nothing false x = refl

        by : (m n : Bool) → making ≡ m → is_none (refusal_then parameters arrays p out) ≡ n
            → cond ((m && are_narrow (last_or no_layer layers).parts) && n) (statement_pieces (length parameters) (statement_at a.text here) ∷ []) [] ≡ cond (m && n) (statement_pieces (length parameters) s ∷ []) []
        by false n e f = refl
        by true false e f = nothing (are_narrow (last_or no_layer layers).parts) _
        by true true e f =
            let can : can_take parameters arrays out ≡ true = (both_true (can_take parameters arrays out) (nat_le (length loops) 12) e).0 in
            let none : statement_refusal parameters arrays (out.number + 1) p ≡ None =
            sym (ap (λ t. cond t (statement_refusal parameters arrays (out.number + 1) p) None) can) ∙ none_is (refusal_then parameters arrays p out) f in
            ap (λ t. cond ((true && t) && true) (statement_pieces (length parameters) (statement_at a.text here) ∷ []) []) (narrow_here (fine none))
            ∙ ap (λ z. statement_pieces (length parameters) z ∷ []) (statement_is e (fine none))

    -- behind the references
    reads_are : (rs : List Reference) (b : Accesses)
        → read rs (place_with parameters arrays loops turns next layers b out) ≡ place_with parameters arrays loops turns next layers (gathered parameters arrays loops making rs b) out
    reads_are [] b = refl
    reads_are (r ∷ rs) b = reads_are rs (with_access making arrays Read r.name (map (λ e. checked_form parameters loops e) r.subscripts) b)

    gathered_here : referred Write a.target (read (references_read parameters loops a) (place parameters arrays loops turns next layers out)) ≡ here
    gathered_here =
        ap (λ z. referred Write a.target z) (reads_are (references_read parameters loops a) no_accesses)
        ∙ ap (λ b. place_with parameters arrays loops turns next layers b out) (all_gathered parameters arrays loops making a)

    state_with : ℕ → List RawStatement → Option Refusal → State
    state_with n statements refusal = place parameters arrays loops turns (next + 1) layers (record { number = n; statements = statements; refusal = refusal })

    pub assignment_is : out.number + 1 ≤ 1024
        → assigned a.text (referred Write a.target (read (references_read parameters loops a) (place parameters arrays loops turns next layers out)))
        ≡ place parameters arrays loops turns (next + 1) layers (take parameters arrays p out)
    unfolding state_with take
    assignment_is l =
        ap (λ z. assigned a.text z) gathered_here
        ∙ ap (λ t. cond t (record here { accesses = no_accesses; statements = out.statements ++ pieces_here a.text here; refusal = or_else out.refusal (refusal_here here) })
        (state_with (out.number + 1) (out.statements ++ pieces_here a.text here) (or_else out.refusal (refusal_here here)))) (not_above 1024 out.number (omega (arith, l)))
        ∙ ap (λ r. state_with (out.number + 1) (out.statements ++ pieces_here a.text here) (or_else out.refusal r)) refusal_is
        ∙ ap (λ ps. state_with (out.number + 1) (out.statements ++ ps) (or_else out.refusal (refusal_then parameters arrays p out))) pieces_are
