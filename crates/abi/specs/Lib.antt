-- What the arguments of a C export stand for.
pub mod Arguments
