-- Handed on from scop_data.
pub use Rattle.scop_data.specs.Layouts.{line, number_line, names_line, parts_line, relation_layout, access_word, access_layout, body_layout, extension_layout, relations_layout, statement_layout, parameters_layout, array_line, arrays_layout, layout}
