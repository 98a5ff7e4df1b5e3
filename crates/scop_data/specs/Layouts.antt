-- The printed layout of OpenScop text, as bytes.
use Rattle.std.specs.Prelude.{ℤ, ℕ, ◌+◌, List, [], ◌∷◌, ◌++◌, Option, None, Some, length, nat_le, if◌then◌else◌, codes}
use Rattle.std.specs.List.{flat_map}
use Rattle.std.specs.Fmt.{decimal, signed_decimal}
use Rattle.relation_core.specs.Systems.{System}
use Rattle.relation_core.specs.Layouts.{part_layout}
use Rattle.scop_data.specs.declared.accesses.AccessKind.{AccessKind}
use Rattle.scop_data.specs.declared.accesses.AccessKind.TheVariants.{Read, Write, MayWrite}
use Rattle.scop_data.specs.declared.accesses.Access.{Access}
use Rattle.scop_data.specs.declared.statements.Body.{Body}
use Rattle.scop_data.specs.declared.statements.Extension.{Extension}
use Rattle.scop_data.specs.declared.statements.Statement.{Statement}
use Rattle.scop_data.specs.SolvedRows.{schedule_part, access_part}
use Rattle.scop_data.specs.ScopData.{ScopData}

-- a text as one line
abbrev pub line : List ℕ → List ℕ
line text = text ++ 10 ∷ []

-- a number as one line
abbrev pub number_line : ℕ → List ℕ
number_line n = line (decimal n)

-- names on one line, with one space between each two; no line where there are none
abbrev pub names_line : List (List ℕ) → List ℕ
names_line [] = []
names_line (name ∷ names) = name ++ flat_map (λ next. 32 ∷ next) names ++ 10 ∷ []

-- the number of parts is printed where it is at least 2
abbrev pub parts_line : ℕ → List ℕ
parts_line n = if nat_le 2 n then number_line n else []

-- a relation: its type word, the number of parts, the parts
abbrev pub relation_layout : List ℕ → List System → List ℕ
relation_layout word parts = line word ++ parts_line (length parts) ++ flat_map part_layout parts

-- the type word of an access
abbrev pub access_word : AccessKind → List ℕ
access_word Read = codes "READ"
access_word Write = codes "WRITE"
access_word MayWrite = codes "MAY_WRITE"

-- an access over so many iterators and parameters
abbrev pub access_layout : ℕ → ℕ → Access → List ℕ
access_layout iterators parameters access =
    relation_layout (access_word access.kind) (access_part iterators parameters access ∷ [])

-- a body: the number of iterators, their names, the text
abbrev pub body_layout : Body → List ℕ
body_layout body =
    line (codes "<body>") ++ number_line (length body.iterators) ++ names_line body.iterators ++ line body.text ++ line (codes "</body>")

-- an extension: its lines as they were read, between its name's two lines
abbrev pub extension_layout : Extension → List ℕ
extension_layout extension =
    codes "<" ++ extension.name ++ codes ">\n" ++ flat_map line extension.lines ++ codes "</" ++ extension.name ++ codes ">\n"

-- the relations of a statement: their number, the domain, the scattering, the accesses
abbrev pub relations_layout : ℕ → Statement → List ℕ
relations_layout parameters statement =
    let iterators = length statement.body.iterators
    in number_line (length statement.accesses + 2) ++ relation_layout (codes "DOMAIN") statement.domain
    ++ relation_layout (codes "SCATTERING") (schedule_part iterators parameters statement.schedule ∷ [])
    ++ flat_map (access_layout iterators parameters) statement.accesses

-- a statement: its relations, then its extensions, the body first
abbrev pub statement_layout : ℕ → Statement → List ℕ
statement_layout parameters statement =
    relations_layout parameters statement ++ number_line (length statement.extensions + 1)
    ++ body_layout statement.body ++ flat_map extension_layout statement.extensions

-- the names of the parameters, where they are present
abbrev pub parameters_layout : Option (List (List ℕ)) → List ℕ
parameters_layout None = line (codes "0")
parameters_layout (Some names) = line (codes "1") ++ line (codes "<strings>") ++ names_line names ++ line (codes "</strings>")

-- an array: its identifier and its name
abbrev pub array_line : ℤ × List ℕ → List ℕ
array_line array = signed_decimal array.0 ++ codes " " ++ line array.1

-- the arrays, where they are present
abbrev pub arrays_layout : Option (List (ℤ × List ℕ)) → List ℕ
arrays_layout None = []
arrays_layout (Some arrays) =
    line (codes "<arrays>") ++ number_line (length arrays) ++ flat_map array_line arrays ++ line (codes "</arrays>")

-- a whole SCoP
abbrev pub layout : ScopData → List ℕ
layout scop =
    line (codes "<OpenScop>") ++ line scop.language ++ relation_layout (codes "CONTEXT") (scop.context ∷ [])
    ++ parameters_layout scop.parameters ++ number_line (length scop.statements)
    ++ flat_map (statement_layout scop.context.shape.parameters) scop.statements
    ++ arrays_layout scop.arrays ++ flat_map extension_layout scop.extensions ++ line (codes "</OpenScop>")
