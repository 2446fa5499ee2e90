use native.Mathlib.Omega.{arith}
use Rattle.rolling.proofs.InBytes.{byte_stored, bytes_end}
use Rattle.rolling.proofs.bytes.store_number.Goals as goal

pub loop-byte-preserved : goal.loop-byte-preserved
loop-byte-preserved c = byte_stored c.loop-byte.byte-items c.loop-byte.byte-index c.loop-byte.rest (omega arith) c.loop-byte.invariant

pub returns : goal.returns
returns c = bytes_end c.loop-byte.byte-items c.loop-byte.byte-index c.loop-byte.rest (omega arith) c.loop-byte.invariant
