-- The symbols as bytes are the same list.
use native.Mathlib.Omega.{arith}
use Rattle.codewords.proofs.Accepted.{accepted_done}
use Rattle.sheet.proofs.Few.{function_part}
use Rattle.sheet.proofs.Jobs.{are_bytes}
use Rattle.sheet.proofs.job.solve_message.Goals as goal

pub narrow-requires : goal.narrow-requires
narrow-requires c =
    let s = c.requires.solvable in
    (omega (arith, s.symbols_many, (function_part s c.requires.rooms.0).few), are_bytes _ _ (accepted_done _ s.done).field s.are_symbols)
