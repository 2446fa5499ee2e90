-- What a step leaves.
use Rattle.std.specs.Prelude.{ℤ, Result, Ok, Err}
use Rattle.basics.specs.declared.Refusal.{Refusal}
use Rattle.hours.specs.Means.{absent}
use Rattle.rolling.specs.declared.state.RollingState.{RollingState}
use Rattle.rolling.specs.declared.step.Stepped.{Stepped}

-- a refused step leaves the state that went in, and no mean
abbrev pub left_by : RollingState → Result Stepped Refusal → RollingState × ℤ
left_by s (Ok t) = (t.state, t.mean)
left_by s (Err e) = (s, absent)
