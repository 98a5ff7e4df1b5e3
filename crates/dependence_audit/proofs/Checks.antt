-- The audit on concrete blocks.
use Rattle.std.proofs.Common.{◌≡◌, refl, ℤ, pos, negsuc, ℕ, List, [], ◌∷◌, ◌++◌, None}
use Rattle.std.specs.Fmt.{digits}
use Rattle.std.specs.Prelude.{codes, Result, Ok, Err}
use Rattle.suite_base.specs.Lines.{lines}
use Rattle.suite_base.specs.declared.refusals.Refusal.{Refusal}
use Rattle.suite_base.specs.declared.refusals.Refusal.TheVariants.{Overflow, BadCertificate}
use Rattle.suite_base.specs.declared.refusals.Where.TheVariants.{System as OfSystem}
use Rattle.relation_core.specs.Systems.{System}
use Rattle.relation_core.specs.declared.part_rows.PartRow.{PartRow}
use Rattle.relation_core.specs.declared.part_rows.RowKind.TheVariants.{AtLeast}
use Rattle.scop_data.specs.declared.affines.Affine.{Affine}
use Rattle.scop_data.specs.declared.accesses.AccessKind.TheVariants.{Read, Write}
use Rattle.scop_data.specs.declared.schedules.Schedule.{Schedule}
use Rattle.scop_data.specs.declared.accesses.Access.{Access}
use Rattle.scop_data.specs.declared.statements.Extension.{Extension}
use Rattle.scop_data.specs.declared.statements.Statement.{Statement}
use Rattle.scop_core.specs.ScopData.{ScopData}
use Rattle.dependence_blocks.specs.Blocks.{block_of}
use Rattle.dependence_audit.specs.declared.audits.Counts.{Counts}
use Rattle.dependence_audit.specs.Contents.{contents}
use Rattle.dependence_audit.specs.Audits.{audited}

silent_lines : contents (codes " 003 # three" ∷ (codes "# x" ∷ (codes "\r" ∷ (codes "1 2\r" ∷ [])))) ≡ codes "003" ∷ (codes "1 2" ∷ [])
silent_lines = refl

abbrev o : ℤ
o = pos 0

abbrev one : ℤ
one = pos 1

abbrev minus : ℤ
minus = negsuc 0

abbrev value : List ℤ → List ℤ → ℤ → Affine
value iterators parameters constant = record { iterators = iterators; floors = []; parameters = parameters; constant = constant }

abbrev at_least : List (List ℤ) → List PartRow
at_least [] = []
at_least (entries ∷ rows) = record { kind = AtLeast; entries = entries } ∷ at_least rows

-- so many outputs and parameters, and these inequalities
abbrev shaped : ℕ → ℕ → List (List ℤ) → System
shaped outputs parameters rows = record { shape = record { outputs = outputs; inputs = 0; locals = 0; parameters = parameters }; rows = at_least rows }

abbrev statement_of : System → Schedule → List Access → List (List ℕ) → Statement
statement_of domain schedule accesses iterators = record {
  domain = domain ∷ [];
  schedule = schedule;
  accesses = accesses;
  body = record { text = codes "S"; iterators = iterators };
  extensions = [];
}

abbrev scop_with : System → List Statement → List Extension → ScopData
scop_with context statements extensions = record {
  language = codes "C";
  context = context;
  parameters = None;
  statements = statements;
  arrays = None;
  extensions = extensions;
}

-- the loop from N down to 0 with A[i + written] = A[i + read], and these global extensions
abbrev downward : ℤ → ℤ → List Extension → ScopData
downward written read extensions = scop_with (shaped 0 1 []) (statement_of (shaped 1 1 ((minus ∷ (one ∷ (o ∷ []))) ∷ ((one ∷ (o ∷ (o ∷ []))) ∷ [])))
    (record { floors = []; levels = value (minus ∷ []) (o ∷ []) o ∷ []; betas = o ∷ (o ∷ []) })
    (record { kind = Read; array = one; subscripts = value (one ∷ []) (o ∷ []) read ∷ [] } ∷ (record { kind = Write; array = one; subscripts = value (one ∷ []) (o ∷ []) written ∷ [] } ∷ [])) (codes "i" ∷ []) ∷ []) extensions

-- x = 0; x = 1; without a loop
abbrev scalars : List Extension → ScopData
scalars extensions = scop_with (shaped 0 0 []) (statement_of (shaped 0 0 []) (record { floors = []; levels = []; betas = o ∷ [] }) (record { kind = Write; array = one; subscripts = [] } ∷ []) []
    ∷ (statement_of (shaped 0 0 []) (record { floors = []; levels = []; betas = one ∷ [] }) (record { kind = Write; array = one; subscripts = [] } ∷ []) [] ∷ [])) extensions

-- the block with these lines, as the only extension
abbrev block : List ℕ → List Extension
block text = block_of (lines text) ∷ []

-- the three entries of the loop from N down to 0
abbrev war : List ℕ
war = codes "WAR 1 1 1 2 1 1 1 dropped\n0 0 0 0 -1 1\n"

abbrev raw : List ℕ
raw = codes "RAW 1 1 2 1 1 1 1 kept\n6 5 1 1 0 1\n1 -1 0 1 0\n1 1 0 0 0\n1 0 -1 1 0\n1 0 1 0 0\n0 1 -1 0 -1\n1 1 -1 0 -1\n"

abbrev waw : List ℕ
waw = codes "WAW 1 1 2 2 1 1 1 dropped\n0 0 0 0 -1 1"

abbrev counts : ℕ → ℕ → ℕ → Result Counts Refusal
counts systems kept dropped = Ok (record { systems = systems; kept = kept; dropped = dropped })

abbrev bad : ℕ → Result Counts Refusal
bad k = Err (BadCertificate k)

-- the block as it is printed
as_printed : audited (downward o one (block (codes "3\n" ++ (war ++ (raw ++ waw))))) ≡ counts 3 1 2
unfolding digits
as_printed = refl

-- numbers by value, other multipliers, comments and carriage returns
by_value : audited (downward o one (block (codes " 003 # three\r\nWAR 1 1 1 2 1 1 1 dropped\r\n0 0 0 0 -2 2\r\nRAW 1 1 2 1 1 1 1 kept\r\n6 05 1 1 -0 1\r\n1 -1 0 1 0\r\n1 1 0 0 0\r\n1 0 -1 1 0\r\n1 0 1 0 0\r\n0 1 -1 0 -1\r\n1 1 -1 0 -1\r\nWAW 1 1 2 2 1 1 1 dropped\r\n0 0 0 0 -1 1\r\n# x\r"))) ≡ counts 3 1 2
unfolding digits
by_value = refl

-- multipliers that are no certificate
not_valid : audited (downward o one (block (codes "3\nWAR 1 1 1 2 1 1 1 dropped\n0 0 0 0 1 1\n" ++ (raw ++ waw)))) ≡ bad 1
unfolding digits
not_valid = refl

-- too few multipliers
too_few : audited (downward o one (block (codes "3\nWAR 1 1 1 2 1 1 1 dropped\n0 0 0 0 -1\n" ++ (raw ++ waw)))) ≡ bad 1
unfolding digits
too_few = refl

-- a number out of range
out_of_range : audited (downward o one (block (codes "3\nWAR 1 1 1 2 1 1 1 dropped\n0 0 0 0 -1 170141183460469231731687303715884105728\n" ++ (raw ++ waw)))) ≡ bad 1
unfolding digits
out_of_range = refl

-- the words of a head are compared byte by byte
head_by_bytes : audited (downward o one (block (codes "3\nWAR 01 1 1 2 1 1 1 dropped\n0 0 0 0 -1 1\n" ++ (raw ++ waw)))) ≡ bad 1
unfolding digits
head_by_bytes = refl

-- the other verdict
other_verdict : audited (downward o one (block (codes "3\nWAR 1 1 1 2 1 1 1 kept\n0 0 0 0 -1 1\n" ++ (raw ++ waw)))) ≡ bad 1
unfolding digits
other_verdict = refl

-- a tenth word
tenth_word : audited (downward o one (block (codes "3\nWAR 1 1 1 2 1 1 1 dropped x\n0 0 0 0 -1 1\n" ++ (raw ++ waw)))) ≡ bad 1
unfolding digits
tenth_word = refl

-- a changed number in a row
other_row : audited (downward o one (block (codes "3\n" ++ (war ++ (codes "RAW 1 1 2 1 1 1 1 kept\n6 5 1 1 0 1\n1 -1 0 1 0\n1 1 0 0 0\n1 0 -1 1 0\n0 1 -1 0 0\n0 1 -1 0 -1\n1 1 -1 0 -1\n" ++ waw))))) ≡ bad 2
unfolding digits
other_row = refl

-- one number more
longer_row : audited (downward o one (block (codes "3\n" ++ (war ++ (codes "RAW 1 1 2 1 1 1 1 kept\n6 5 1 1 0 1 0\n1 -1 0 1 0\n1 1 0 0 0\n1 0 -1 1 0\n1 0 1 0 0\n0 1 -1 0 -1\n1 1 -1 0 -1\n" ++ waw))))) ≡ bad 2
unfolding digits
longer_row = refl

-- a row is missing
row_missing : audited (downward o one (block (codes "3\n" ++ (war ++ (codes "RAW 1 1 2 1 1 1 1 kept\n6 5 1 1 0 1\n1 -1 0 1 0\n1 1 0 0 0\n1 0 -1 1 0\n1 0 1 0 0\n1 1 -1 0 -1\n" ++ waw))))) ≡ bad 2
unfolding digits
row_missing = refl

-- no certificate for a system with a point
dropped_kept : audited (downward o one (block (codes "3\n" ++ (war ++ (codes "RAW 1 1 2 1 1 1 1 dropped\n0 0 0 0 0 0\n" ++ waw))))) ≡ bad 2
unfolding digits
dropped_kept = refl

-- the last line is missing
line_missing : audited (downward o one (block (codes "3\n" ++ (war ++ (raw ++ codes "WAW 1 1 2 2 1 1 1 dropped"))))) ≡ bad 3
unfolding digits
line_missing = refl

-- content behind the last entry
content_behind : audited (downward o one (block (codes "3\n" ++ (war ++ (raw ++ (waw ++ codes "\nx")))))) ≡ bad 4
unfolding digits
content_behind = refl

-- the first line is another number
first_line : audited (downward o one (block (codes "-3\n" ++ (war ++ (raw ++ waw))))) ≡ bad 0
unfolding digits
first_line = refl

-- the block has no line
no_line : audited (downward o one (block [])) ≡ bad 0
unfolding digits
no_line = refl

-- multipliers too heavy to check
heavy : audited (downward o one (block (codes "3\nWAR 1 1 1 2 1 1 1 dropped\n0 0 0 0 -170141183460469231731687303715884105727 170141183460469231731687303715884105727\n" ++ (raw ++ waw)))) ≡ Err (Overflow OfSystem 1)
unfolding digits
heavy = refl

-- the same behind a wrong head
heavy_wrong : audited (downward o one (block (codes "3\nRAW 1 1 1 2 1 1 1 dropped\n0 0 0 0 -170141183460469231731687303715884105727 170141183460469231731687303715884105727\n" ++ (raw ++ waw)))) ≡ bad 1
unfolding digits
heavy_wrong = refl

-- no block, and one behind another
no_block : audited (downward o one []) ≡ bad 0
unfolding digits
no_block = refl

second_block : audited (downward o one (block_of (codes "1" ∷ []) ∷ (block (codes "3\n" ++ (war ++ (raw ++ waw)))))) ≡ bad 0
unfolding digits
second_block = refl

-- summands that overflow, whatever stands in the block
own_overflow : audited (downward one (negsuc 170141183460469231731687303715884105726) (block (codes "3"))) ≡ Err (Overflow OfSystem 1)
unfolding digits
own_overflow = refl

-- a kept entry without rows
without_rows : audited (scalars (block (codes "1\nWAW 1 2 1 1 1 1 0 kept\n0 2 0 0 0 0"))) ≡ counts 1 1 0
unfolding digits
without_rows = refl

-- a row that its system does not have
row_too_many : audited (scalars (block (codes "1\nWAW 1 2 1 1 1 1 0 kept\n0 2 0 0 0 0\n0 0"))) ≡ bad 2
unfolding digits
row_too_many = refl

-- no statement
nothing : audited (scop_with (shaped 0 0 []) [] (block (codes "0"))) ≡ counts 0 0 0
unfolding digits
nothing = refl
