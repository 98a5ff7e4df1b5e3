-- The rule of the global extensions has a count of turns that the loop has not: enough of them are left.
use Rattle.std.proofs.Common.{◌≡◌, refl, sym, ap, ◌∙◌, ℕ, ℤ, zero, suc, ◌≤◌, ◌<◌, List, [], ◌∷◌, length, Result, Ok, Err, true, false, arith}
use Rattle.std.specs.Str.{bytes_eq}
use Rattle.suite_base.specs.declared.refusals.Fail.{Fail}
use Rattle.suite_base.specs.declared.refusals.Fail.TheVariants as fail
use Rattle.suite_base.specs.declared.refusals.Refusal.{Refusal}
use Rattle.suite_base.specs.Words.{content}
use Rattle.scop_core.specs.Printable.{arrays_name}
use Rattle.scop_reader.specs.Lines.{Rest}
use Rattle.scop_reader.specs.Reading.{Outcome, ◌>>◌, and_then, pure, said_line, next_said, literal, Reads, ReadsTo}
use Rattle.scop_reader.specs.Rules.{Extensions, no_extensions, extension, arrays, globals, globals_from, close_word}

abbrev pub Globals : Type 0
Globals = Extensions (List (ℤ × List ℕ))

-- the global extensions are read on from here, behind those that were found
pub record ReadsOn (first : Rest) (found : Globals) (rest : Rest) : Type 0 where
  pub turns : ℕ
  pub enough : length rest.lines ≤ turns
  pub same : globals first ≡ globals_from turns found rest

pub begins : (rest : Rest) (found : Globals) → found ≡ no_extensions → ReadsOn rest found rest
unfolding globals
begins rest found e = record { turns = length rest.lines; enough = omega arith; same = ap (λ (x : Globals). globals_from (length rest.lines) x rest) (sym e) }

closes_at : (n : ℕ) (found : Globals) (rest : Rest) → bytes_eq (content (next_said rest)) close_word ≡ true → globals_from n found rest ≡ (literal close_word >> pure found) rest
unfolding globals_from
closes_at zero found rest e = refl
closes_at (suc n) found rest e = rw e refl

-- the closing line comes next
pub closes : (first : Rest) (found : Globals) (rest : Rest) → ReadsOn first found rest → bytes_eq (content (next_said rest)) close_word ≡ true → globals first ≡ (literal close_word >> pure found) rest
closes first found rest h e = h.same ∙ closes_at h.turns found rest e

-- at the text's end both are refused
ends_at : (found : Globals) (rest : Rest) → rest.lines ≡ [] → globals_from zero found rest ≡ extension arrays_name arrays found rest
unfolding globals_from literal extension said_line
ends_at found rest e = rw e refl

goes_at : (n : ℕ) (found : Globals) (rest : Rest) → length rest.lines ≤ n → bytes_eq (content (next_said rest)) close_word ≡ false → (refusal : Refusal) → extension arrays_name arrays found rest ≡ Err refusal → globals_from n found rest ≡ Err refusal
unfolding globals_from
goes_at zero found rest h e refusal f = ends_at found rest (none_left rest.lines h) ∙ f
  where
    none_left : (ls : List (List ℕ)) → length ls ≤ 0 → ls ≡ []
    none_left [] h = refl
    none_left (l ∷ ls) h = absurd (omega arith)
goes_at (suc n) found rest h e refusal f = rw (e, f) refl

-- an extension is refused
pub stops : (first : Rest) (found : Globals) (rest : Rest) → ReadsOn first found rest → bytes_eq (content (next_said rest)) close_word ≡ false → (refusal : Refusal) → extension arrays_name arrays found rest ≡ Err refusal → globals first ≡ Err refusal
stops first found rest h e refusal f = h.same ∙ goes_at h.turns found rest h.enough e refusal f

more_at : (n : ℕ) (found next : Globals) (rest now : Rest) → bytes_eq (content (next_said rest)) close_word ≡ false → extension arrays_name arrays found rest ≡ Ok (next, now) → globals_from (suc n) found rest ≡ globals_from n next now
unfolding globals_from
more_at n found next rest now e f = rw (e, f) refl

more_from : (first : Rest) (n : ℕ) (found next : Globals) (rest now : Rest) → length rest.lines ≤ n → globals first ≡ globals_from n found rest → bytes_eq (content (next_said rest)) close_word ≡ false
    → extension arrays_name arrays found rest ≡ Ok (next, now) → length now.lines < length rest.lines → ReadsOn first next now
more_from first zero found next rest now h same e f fewer = absurd (omega arith)
more_from first (suc n) found next rest now h same e f fewer = record { turns = n; enough = omega arith; same = same ∙ more_at n found next rest now e f }

-- one extension more is found
pub one_more_global : (first : Rest) (found next : Globals) (rest now : Rest) → ReadsOn first found rest → bytes_eq (content (next_said rest)) close_word ≡ false
    → extension arrays_name arrays found rest ≡ Ok (next, now) → length now.lines < length rest.lines → ReadsOn first next now
one_more_global first found next rest now h e f fewer = more_from first h.turns found next rest now h.enough h.same e f fewer

-- the same for any failure
pub fails : (first : Rest) (found next : Globals) (rest now : Rest) (e : Fail) → ReadsOn first found rest → bytes_eq (content (next_said rest)) close_word ≡ false
    → ReadsTo (extension arrays_name arrays found rest) (Err e) next now → ReadsTo (globals first) (Err e) next now
fails first found next rest now fail.Memory h e f = tt
fails first found next rest now (fail.Refused refusal) h e f = stops first found rest h e refusal f

-- the closing line is read, or what stands there is refused
pub closed : (o : Outcome (Unit {0})) (wanted : Outcome Globals) (found : Globals) (result : Result (Unit {0}) Fail) (now : Rest) → wanted ≡ and_then o (λ _. pure found) → Reads o result now → ReadsTo wanted result found now
closed o wanted found (Ok u) now e h = e ∙ ap (λ (x : Outcome (Unit {0})). and_then x (λ _. pure found)) h
closed o wanted found (Err fail.Memory) now e h = tt
closed o wanted found (Err (fail.Refused refusal)) now e h = e ∙ ap (λ (x : Outcome (Unit {0})). and_then x (λ _. pure found)) h
