-- The indices stand behind the factors, then the parts are written and added, and then the rows completed.
use Prim.Native.Nat.{ℕ}
use mathlib.Core.Path.{◌≡◌, refl, sym, ◌∙◌, ap}
use mathlib.Core.List.{List}
use lib.ListN.{length, replicate}
use Rattle.basics.specs.Lists.{table}
use Rattle.coder.specs.Outcomes.{joined}
use Rattle.values.specs.Values.{one}
use Rattle.generator.specs.Rows.{Indexed, Slots}
use Rattle.matrix.specs.Given.{Written, frees, row_at}
use Rattle.matrix.proofs.Joined.{parts_all}
use Rattle.matrix.proofs.Marks.{marked, indexed_as, rows_kept, row_complete}
use Rattle.matrix.proofs.write.fill_rows.Goals as goal

-- the slots behind the factors have the indices of the free points, and there is a sum for each point
slots_in : {k : ℕ} {J px l u a b out a' b' sums : List ℕ} → Written k J px l u a b out → length a' ≡ length a → length b' ≡ length b
    → Indexed k (length px) (frees J px) a' b' → length sums ≡ length px → Slots k px a' b' sums px
slots_in w e f x h =
    record {
      points = w.points;
      first_size = e ∙ w.firsts;
      second_size = f ∙ w.seconds;
      sum_size = h;
      row_size = refl;
      inside = x.inside;
      most = w.most;
    }

pub index_rest-requires : goal.index_rest-requires
index_rest-requires c =
    let w = c.requires.written.0 in
    let size = c.requires.written.1 in
    (rw size w.places, marked c.args.k (length c.args.px.now) c.args.places.now c.args.sums.now size w.most w.places w.apart w.full, w.firsts ∙ sym size, w.seconds ∙ sym size)

pub part_rows-requires : goal.part_rows-requires
part_rows-requires c =
    let w = c.requires.written.0 in
    let size = c.index_rest.auto.marks ∙ c.requires.written.1 in
    let free = indexed_as c.args.k c.args.places.now c.args.px.now c.args.sums.now _ _ c.requires.written.1 c.index_rest.ensures.indexed in
    record {
      slots = (
        slots_in w c.index_rest.auto.a c.index_rest.auto.b free (c.fill_ones.auto.out ∙ size),
        w.lows,
        w.highs,
        c.clear.auto.f ∙ w.room,
        c.fill_ones.ensures ∙ ap (table one) size,
        c.clear.ensures ∙ ap (λ y. replicate y 0) w.room,
      );
    }

pub complete_rows-requires : goal.complete_rows-requires
complete_rows-requires c =
    let w = c.requires.written.0 in
    let size = c.part_rows.auto.sums ∙ c.fill_ones.auto.out ∙ c.index_rest.auto.marks ∙ c.requires.written.1 in
    let free = indexed_as c.args.k c.args.places.now c.args.px.now c.args.sums.now _ _ c.requires.written.1 c.index_rest.ensures.indexed in
    (slots_in w c.index_rest.auto.a c.index_rest.auto.b free size, w.places, w.full, c.part_rows.auto.out ∙ c.clear.auto.f ∙ w.room)

pub returns : goal.returns
returns c =
    let free = indexed_as c.args.k c.args.places.now c.args.px.now c.args.sums.now _ _ c.requires.written.1 c.index_rest.ensures.indexed in
    parts_all (row_at c.args.field.now.number c.args.k c.args.places.now c.args.px.now c.args.l.now c.args.u.now c.index_rest.new.a c.index_rest.new.b) c.args.k (length c.args.px.now) c.complete_rows.new.out
    (λ i h. row_complete c.args.field.now.number c.args.k c.args.places.now c.args.px.now c.args.l.now c.args.u.now c.index_rest.new.a c.index_rest.new.b free c.part_rows.ensures h (c.complete_rows.ensures i h))
    (c.complete_rows.auto.out ∙ c.part_rows.auto.out ∙ c.clear.auto.f ∙ c.requires.written.0.room)
    ∙ ap joined (rows_kept c.args.field.now.number c.args.k c.args.places.now c.args.px.now c.args.l.now c.args.u.now c.args.a.now c.args.b.now c.index_rest.new.a c.index_rest.new.b c.index_rest.ensures.firsts c.index_rest.ensures.seconds)
