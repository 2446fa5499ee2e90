-- Test after test, in the order of their numbers; one pass over the points tells two of them.
use borrow.Author.Tests.{not-true, not-false}
use Rattle.code.proofs.Answering.{is_smooth, counts, as_many, on_curve, are_different, fits}
use Rattle.code.proofs.Answering.{singular, wrong_count, off_curve, repeated, wrong_dimension, points_done}
use Rattle.code.proofs.test.test_points.Goals as goal

pub returns-then-is_singular : goal.returns-then-is_singular
returns-then-is_singular c = singular _ (is_smooth _ _ _ _ _ c.is_singular.ensures c.if-is_singular.true)

pub returns-then-not-right_count : goal.returns-then-not-right_count
returns-then-not-right_count c =
    wrong_count _ (is_smooth _ _ _ _ _ c.is_singular.ensures c.if-is_singular.false) (counts _ _ _ _ _ c.right_count.ensures c.if-not-right_count.true)

pub judge-found-requires : goal.judge-found-requires
judge-found-requires c = record { xs_len = as_many c.args.field.now.number c.args.c c.args.k _ _ (counts _ _ _ _ _ c.right_count.ensures c.if-not-right_count.false) }

pub returns-then-not-found : goal.returns-then-not-found
returns-then-not-found c =
    off_curve _ (is_smooth _ _ _ _ _ c.is_singular.ensures c.if-is_singular.false) (counts _ _ _ _ _ c.right_count.ensures c.if-not-right_count.false)
    (on_curve _ _ _ _ _ c.judge-found.ensures (not-true _ c.if-not-found.true))

pub returns-then-not-found-2 : goal.returns-then-not-found-2
returns-then-not-found-2 c =
    let r = counts _ _ _ _ _ c.right_count.ensures c.if-not-right_count.false in
    let o = on_curve _ _ _ _ _ c.judge-found.ensures (not-false _ c.if-not-found.false) in
    repeated _ (is_smooth _ _ _ _ _ c.is_singular.ensures c.if-is_singular.false) r o
    (are_different _ _ _ _ _ c.args.field.now.tables.field c.requires r o c.judge-found.ensures (not-true _ c.if-not-found-2.true))

pub returns-then-not-right_dimension : goal.returns-then-not-right_dimension
returns-then-not-right_dimension c =
    let r = counts _ _ _ _ _ c.right_count.ensures c.if-not-right_count.false in
    let o = on_curve _ _ _ _ _ c.judge-found.ensures (not-false _ c.if-not-found.false) in
    let d = are_different _ _ _ _ _ c.args.field.now.tables.field c.requires r o c.judge-found.ensures (not-false _ c.if-not-found-2.false) in
    wrong_dimension _ (is_smooth _ _ _ _ _ c.is_singular.ensures c.if-is_singular.false) r o d (fits _ _ _ _ _ c.right_dimension.ensures c.if-not-right_dimension.true)

pub returns : goal.returns
returns c =
    let r = counts _ _ _ _ _ c.right_count.ensures c.if-not-right_count.false in
    let o = on_curve _ _ _ _ _ c.judge-found.ensures (not-false _ c.if-not-found.false) in
    let d = are_different _ _ _ _ _ c.args.field.now.tables.field c.requires r o c.judge-found.ensures (not-false _ c.if-not-found-2.false) in
    points_done _ (is_smooth _ _ _ _ _ c.is_singular.ensures c.if-is_singular.false) r o d (fits _ _ _ _ _ c.right_dimension.ensures c.if-not-right_dimension.false)
