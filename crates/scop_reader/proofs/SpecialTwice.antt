-- An extension of a special name is refused where one stands already.
use Rattle.std.proofs.Common.{◌≡◌, refl, sym, ap, ◌∙◌, ℕ, List, Option, Some, None, Err, Ok, true, false}
use Rattle.std.specs.Option.{is_some}
use Rattle.std.specs.Str.{bytes_eq}
use Rattle.suite_base.specs.declared.refusals.Fail.{Fail}
use Rattle.suite_base.specs.declared.refusals.Fail.TheVariants as fail
use Rattle.suite_base.specs.declared.refusals.Refusal.TheVariants.{BadScop}
use Rattle.suite_base.specs.Words.{content}
use Rattle.scop_reader.specs.Lines.{Rest, Line}
use Rattle.scop_reader.specs.Reading.{Reader, said_line, ReadsTo}
use Rattle.scop_reader.specs.Rules.{Extensions, extension, is_none, is_opening, opened_name}

not_none : {A : Type 0} (o : Option A) → is_some o ≡ true → is_none o ≡ false
not_none None h = sym h
not_none (Some a) h = refl

taken_name : (line : Line) (special text name : List ℕ) → text ≡ content line.bytes → name ≡ opened_name text → bytes_eq name special ≡ true → bytes_eq (opened_name (content line.bytes)) special ≡ true
taken_name line special text name of_line of_text same = ap (λ t. bytes_eq (opened_name t) special) (sym of_line) ∙ (ap (λ n. bytes_eq n special) (sym of_text) ∙ same)

refused : {A : Type 0} (special : List ℕ) (rule : Reader A) (found : Extensions A) (before now : Rest) (line : Line) → said_line before ≡ Ok (line, now) → is_opening (content line.bytes) ≡ true
    → bytes_eq (opened_name (content line.bytes)) special ≡ true → is_none found.special ≡ false → extension special rule found before ≡ Err (BadScop line.number)
unfolding extension
refused special rule found before now line reads opens named taken = rw (reads, opens, named, taken) refl

pub refused_again : {A : Type 0} (special : List ℕ) (rule : Reader A) (found : Extensions A) (before now : Rest) (line : Line) (text name : List ℕ) (number : ℕ) (fault : Fail)
    → said_line before ≡ Ok (line, now) → text ≡ content line.bytes → is_opening text ≡ true → name ≡ opened_name text → bytes_eq name special ≡ true → is_some found.special ≡ true
    → number ≡ line.number → fault ≡ fail.Refused (BadScop number) → ReadsTo (extension special rule found before) (Err fault) found now
refused_again special rule found before now line text name number fault reads of_line opens of_text named some of_number is =
    rw (is, of_number) (refused special rule found before now line reads (ap is_opening (sym of_line) ∙ opens) (taken_name line special text name of_line of_text named) (not_none found.special some))
