-- The list of refusals: what messages say of each.
use Rattle.std.specs.Prelude.{ℕ, List, ◌++◌, codes}
use Rattle.std.specs.Fmt.{decimal}
use Rattle.suite_base.specs.declared.refusals.Refusal.{Refusal}
use Rattle.suite_base.specs.declared.refusals.Refusal.TheVariants.{TooLong, NoRegion, OpenRegion, SecondRegion, BadToken, BadSyntax, TooDeep, NotAffine, NameClash, TooManyParts, BadScop, NumberTooLarge, SecondScop, NotSolved, BetaClash, Limit, BadScript, NoBeta, BadLevel, BadArgument, NotALoop, Overflow, TooManyRows, Illegal, Different, NotClanForm, NotRecoverable, BadCertificate}
use Rattle.suite_base.specs.declared.refusals.Where.{Where}
use Rattle.suite_base.specs.declared.refusals.Where.TheVariants.{Statement, Command, System}
use Rattle.suite_base.specs.declared.refusals.Which.{Which}
use Rattle.suite_base.specs.declared.refusals.Which.TheVariants.{Statements, Iterators, Parameters, Levels, Locals, Rows, Parts, Accesses, Subscripts, Arrays, Commands, Systems}
use Rattle.suite_base.specs.declared.refusals.Fields.{Fields}
use Rattle.suite_base.specs.declared.refusals.Fields.TheVariants.{NoFields, One, Two, Counted}
use Rattle.suite_base.specs.declared.refusals.Entry.{Entry}

-- what a number counts, in lower-case letters
abbrev pub where_name : Where → List ℕ
where_name Statement = codes "statement"
where_name Command = codes "command"
where_name System = codes "system"

-- the count that passed its limit, in lower-case letters
abbrev pub which_name : Which → List ℕ
which_name Statements = codes "statements"
which_name Iterators = codes "iterators"
which_name Parameters = codes "parameters"
which_name Levels = codes "levels"
which_name Locals = codes "locals"
which_name Rows = codes "rows"
which_name Parts = codes "parts"
which_name Accesses = codes "accesses"
which_name Subscripts = codes "subscripts"
which_name Arrays = codes "arrays"
which_name Commands = codes "commands"
which_name Systems = codes "systems"

-- the fields of a refusal, each behind one space, and the end of their line
abbrev pub no_field : List ℕ
no_field = codes "\n"

abbrev pub one_field : ℕ → List ℕ
one_field n = codes " " ++ (decimal n ++ codes "\n")

abbrev pub two_fields : ℕ → ℕ → List ℕ
two_fields a b = codes " " ++ (decimal a ++ (codes " " ++ (decimal b ++ codes "\n")))

abbrev pub counted_field : List ℕ → ℕ → List ℕ
counted_field name n = codes " " ++ (name ++ (codes " " ++ (decimal n ++ codes "\n")))

-- what messages say of a refusal: its number, its name, and the text of its fields
pub record Told : Type 0 where
  pub number : ℕ
  pub name : List ℕ
  pub fields : List ℕ

abbrev pub said : ℕ → List ℕ → List ℕ → Told
said n word text = record { number = n; name = word; fields = text }

-- numbers are never moved; 16 and 30 are no refusal's
abbrev pub entry_of : Refusal → Told
entry_of TooLong = said 1 (codes "TooLong") no_field
entry_of NoRegion = said 2 (codes "NoRegion") no_field
entry_of (OpenRegion n) = said 3 (codes "OpenRegion") (one_field n)
entry_of (SecondRegion n) = said 4 (codes "SecondRegion") (one_field n)
entry_of (BadToken p) = said 5 (codes "BadToken") (two_fields p.line p.column)
entry_of (BadSyntax p) = said 6 (codes "BadSyntax") (two_fields p.line p.column)
entry_of (TooDeep p) = said 7 (codes "TooDeep") (two_fields p.line p.column)
entry_of (NotAffine p) = said 8 (codes "NotAffine") (two_fields p.line p.column)
entry_of (NameClash p) = said 9 (codes "NameClash") (two_fields p.line p.column)
entry_of (TooManyParts n) = said 10 (codes "TooManyParts") (one_field n)
entry_of (BadScop n) = said 11 (codes "BadScop") (one_field n)
entry_of (NumberTooLarge p) = said 12 (codes "NumberTooLarge") (two_fields p.line p.column)
entry_of (SecondScop n) = said 13 (codes "SecondScop") (one_field n)
entry_of (NotSolved n) = said 14 (codes "NotSolved") (one_field n)
entry_of (BetaClash i j) = said 15 (codes "BetaClash") (two_fields i j)
entry_of (Limit w n) = said 17 (codes "Limit") (counted_field (which_name w) n)
entry_of (BadScript p) = said 18 (codes "BadScript") (two_fields p.line p.column)
entry_of (NoBeta n) = said 19 (codes "NoBeta") (one_field n)
entry_of (BadLevel n) = said 20 (codes "BadLevel") (one_field n)
entry_of (BadArgument n) = said 21 (codes "BadArgument") (one_field n)
entry_of (NotALoop n) = said 22 (codes "NotALoop") (one_field n)
entry_of (Overflow w n) = said 23 (codes "Overflow") (counted_field (where_name w) n)
entry_of (TooManyRows n) = said 24 (codes "TooManyRows") (one_field n)
entry_of (Illegal n) = said 25 (codes "Illegal") (one_field n)
entry_of (Different n) = said 26 (codes "Different") (one_field n)
entry_of (NotClanForm n) = said 27 (codes "NotClanForm") (one_field n)
entry_of (NotRecoverable n) = said 28 (codes "NotRecoverable") (one_field n)
entry_of (BadCertificate n) = said 29 (codes "BadCertificate") (one_field n)

-- the text of fields
abbrev pub fields_text : Fields → List ℕ
fields_text NoFields = no_field
fields_text (One n) = one_field n
fields_text (Two a b) = two_fields a b
fields_text (Counted name n) = counted_field name.now n

-- what an entry of the code's list says
abbrev pub said_by : Entry → Told
said_by e = said e.number e.name.now (fields_text e.fields)
