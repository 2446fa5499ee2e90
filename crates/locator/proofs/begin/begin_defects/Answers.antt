-- The parts of the arrays behind their heads are lent.
use lib.ListN.{length}
use Rattle.field.specs.Products.{product_at}
use Rattle.values.specs.Values.{one}
use Rattle.locator.proofs.First.{lent, filled, copied}
use Rattle.locator.proofs.begin.begin_defects.Goals as goal

pub returns : goal.returns
returns c =
    let at_a = lent (length c.args.ys.now) c.args.a.now c.fill_ones.new.out c.requires.us_len.1.a_long c.fill_ones.auto.out in
    let at_b = lent (length c.args.ys.now) c.args.b.now c.copy.new.out c.requires.us_len.1.b_long c.copy.auto.out in
    let at_c = lent (length c.args.ys.now) c.args.c.now c.copy-2.new.out c.requires.us_len.1.c_long c.copy-2.auto.out in
    let at-d = lent (length c.args.ys.now) c.args.d.now c.fill_products.new.out c.requires.us_len.1.d_long c.fill_products.auto.out in
    record {
      lengths = record { a_long = at_a.long; b_long = at_b.long; c_long = at_c.long; d_long = at-d.long };
      in_a = filled at_a one c.fill_ones.ensures;
      in_b = copied at_b c.args.ys.now c.copy.ensures;
      in_c = copied at_c c.args.us.now c.copy-2.ensures;
      in_d = filled at-d (product_at c.args.field.now.number c.args.ys.now c.args.us.now) c.fill_products.ensures;
    }
