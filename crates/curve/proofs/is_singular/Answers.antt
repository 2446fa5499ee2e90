-- Either g3 decides, or the one point at which the curve can be singular.
use mathlib.Core.Path.{sym}
use Rattle.field.proofs.Galois.{galois_field}
use Rattle.point_count.proofs.Singular.{singular_flat, singular_candidate}
use Rattle.curve.proofs.is_singular.Goals as goal

pub returns-then-c-eq0 : goal.returns-then-c-eq0
returns-then-c-eq0 c = sym (singular_flat (galois_field c.args.field.now.tables.field) c.args.c c.requires c.if-c-eq0.true)

pub returns : goal.returns
returns c =
    rw (c.on_curve.ensures, c.candidate.ensures)
    (sym (singular_candidate (galois_field c.args.field.now.tables.field) c.args.c c.requires c.if-c-eq0.false))
