-- What a script's commands do to a SCoP, said three times: of numbers, of affine forms, and of what is refused.
pub mod Arguments
pub mod Drafts
pub mod Spots
pub mod Refusals
pub mod Steps
pub mod Afters
pub mod Soundness
