-- When pieces can be printed and read back: names that are words, texts that keep to their lines, relations
-- with the shapes that a text gives them.
use Rattle.std.specs.Prelude.{ℤ, pos, ℕ, ◌≡◌, Bool, true, false, not, ◌&&◌, ◌==◌, List, [], ◌∷◌, ◌++◌, length, reverse, IfSome, All, codes, int_le}
use Rattle.std.specs.Ordering.{int_eq}
use Rattle.std.specs.Str.{bytes_eq}
use Rattle.suite_base.specs.Lines.{trim}
use Rattle.suite_base.specs.Words.{begins_word, is_word, spaced}
use Rattle.suite_base.specs.Bytes.{begins_name, is_name_byte}
use Rattle.relation_core.specs.Systems.{System}
use Rattle.scop_data.specs.declared.statements.Body.{Body}
use Rattle.scop_data.specs.declared.statements.Extension.{Extension}
use Rattle.scop_data.specs.declared.raw_pieces.RawStatement.{RawStatement}
use Rattle.scop_data.specs.declared.raw_pieces.ScopPieces.{ScopPieces}
use Rattle.scop_core.specs.Assembly.{iterators_of, HasShapes}

-- the byte b stands nowhere
abbrev pub has_no : ℕ → List ℕ → Bool
has_no b [] = true
has_no b (c ∷ bytes) = not (b == c) && has_no b bytes

-- one line of text, without `#`
abbrev pub is_plain : List ℕ → Bool
is_plain text = has_no 10 text && has_no 35 text

-- one word of a line, without `#`
abbrev pub is_name : List ℕ → Bool
is_name name = is_word name && is_plain name

abbrev pub are_names : List (List ℕ) → Bool
are_names [] = true
are_names (name ∷ names) = is_name name && are_names names

-- the line that ends an extension of this name
abbrev pub end_line : List ℕ → List ℕ
end_line name = codes "</" ++ name ++ codes ">"

-- the name of an extension that is read and not kept: the body of a statement, the arrays of the whole
abbrev pub body_name : List ℕ
body_name = codes "body"

abbrev pub arrays_name : List ℕ
arrays_name = codes "arrays"

-- a text of one line that begins and ends with no blank, and is not the line that ends a body
abbrev pub is_body_line : List ℕ → Bool
is_body_line text = begins_word text && begins_word (reverse text) && is_plain text && not (bytes_eq text (end_line body_name))

-- a body: the names of its iterators, which one line can hold, and its text
abbrev pub is_body : Body → Bool
is_body body =
    are_names body.iterators && not (bytes_eq (spaced body.iterators) (end_line body_name)) && is_body_line body.text

abbrev pub are_name_bytes : List ℕ → Bool
are_name_bytes [] = true
are_name_bytes (b ∷ bytes) = is_name_byte b && are_name_bytes bytes

-- the name of an extension: letters, digits and `_`, the first no digit
abbrev pub is_extension_name : List ℕ → Bool
is_extension_name [] = false
is_extension_name (b ∷ name) = begins_name b && are_name_bytes name

-- lines that can stand in an extension of this name: none of them ends it
abbrev pub are_kept_lines : List ℕ → List (List ℕ) → Bool
are_kept_lines name [] = true
are_kept_lines name (line ∷ lines) = has_no 10 line && not (bytes_eq (trim line) (end_line name)) && are_kept_lines name lines

-- an extension that is kept as it was read, of any name but one
abbrev pub is_kept : List ℕ → Extension → Bool
is_kept other extension =
    is_extension_name extension.name && not (bytes_eq extension.name other) && are_kept_lines extension.name extension.lines

abbrev pub are_kept : List ℕ → List Extension → Bool
are_kept other [] = true
are_kept other (extension ∷ extensions) = is_kept other extension && are_kept other extensions

-- no array has this identifier
abbrev pub has_no_array : ℤ → List (ℤ × List ℕ) → Bool
has_no_array identifier [] = true
has_no_array identifier (array ∷ arrays) = not (int_eq identifier array.0) && has_no_array identifier arrays

-- arrays with names and distinct identifiers of at least 1
abbrev pub are_arrays : List (ℤ × List ℕ) → Bool
are_arrays [] = true
are_arrays (array ∷ arrays) = int_le (pos 1) array.0 && is_name array.1 && has_no_array array.0 arrays && are_arrays arrays

-- the context has parameters alone
pub record IsContext (context : System) : Type 0 where
  pub outputs : context.shape.outputs ≡ 0
  pub inputs : context.shape.inputs ≡ 0
  pub locals : context.shape.locals ≡ 0

-- a part of a domain over so many iterators and parameters
pub record IsDomainPart (iterators parameters : ℕ) (part : System) : Type 0 where
  pub outputs : part.shape.outputs ≡ iterators
  pub inputs : part.shape.inputs ≡ 0
  pub parameters_are : part.shape.parameters ≡ parameters

-- the relation has a part
abbrev pub has_part : List System → Bool
has_part [] = false
has_part (part ∷ parts) = true

-- a statement whose texts can be printed and whose domain has the shape of one
pub record IsPrintableStatement (parameters : ℕ) (raw : RawStatement) : Type 0 where
  pub domain : All (IsDomainPart (iterators_of raw) parameters) raw.domain
  pub some_domain : has_part raw.domain ≡ true
  pub some_scattering : has_part raw.scattering ≡ true
  pub some_accesses : All (λ access. has_part access.1 ≡ true) raw.accesses
  pub body : IfSome raw.body (λ body. is_body body ≡ true)
  pub extensions : are_kept body_name raw.extensions ≡ true

-- pieces that a text can give
pub record IsPrintable (pieces : ScopPieces) : Type 0 where
  pub language : is_name pieces.language ≡ true
  pub context : IsContext pieces.context
  pub names : IfSome pieces.parameters (λ names. are_names names ≡ true)
  pub name_count : IfSome pieces.parameters (λ names. length names ≡ pieces.context.shape.parameters)
  pub shapes : All (HasShapes pieces.context.shape.parameters) pieces.statements
  pub statements : All (IsPrintableStatement pieces.context.shape.parameters) pieces.statements
  pub arrays : IfSome pieces.arrays (λ arrays. are_arrays arrays ≡ true)
  pub extensions : are_kept arrays_name pieces.extensions ≡ true
