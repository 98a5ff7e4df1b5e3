-- Handed on from schedule_forms.
pub use Rattle.schedule_forms.specs.SolvedForm.{weight, is_equality, outputs_of, local_column, locals_from, is_formed, are_formed, is_output_row, is_local_row, is_low_row, is_high_row, first_row, are_opposite, is_pair, each_below, affine_of, output_row, value_at, low_row_of, high_row_of, cleared, size_at, floor_at, has_output, has_floor, is_constant, has_beta, is_scattering, levels_from, betas_from, floors_from, schedule_of, are_equalities, is_access, values_from, access_of}
