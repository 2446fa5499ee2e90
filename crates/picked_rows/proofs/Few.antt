-- An accepted code has at most 288 points.
use Prim.Native.Nat.{◌≤◌}
use lib.ListN.{length}
use Rattle.codewords.proofs.Accepted.{accepted_done}
use Rattle.code.specs.declared.accepted.Code.{Code}

pub few : (c : Code) → length c.xs.now ≤ 288
few c = (accepted_done _ c.accepted).n_most
