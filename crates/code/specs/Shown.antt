-- The code that an accepted one is.
use Rattle.codewords.specs.Code.{Code}
use Rattle.code.specs.declared.accepted.Code.{Code as Accepted}
use Rattle.code.specs.Parts.{code_with}

abbrev pub shown : Accepted → Code
shown c = code_with c.field.now.number c.curve c.k c.xs.now c.ys.now
