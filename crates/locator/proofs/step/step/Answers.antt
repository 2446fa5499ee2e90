-- By the law of a place, for each row that the keys and defects can point out.
use Prim.Native.Nat.{ℕ}
use mathlib.Core.Path.{◌≡◌, refl, ◌∙◌, ap, subst}
use mathlib.Core.List.{List}
use borrow.Author.Tests.{ne_eqb}
use Rattle.locator.specs.Arrays.{Heads, Layout, Turns, exchanged_at}
use Rattle.locator.proofs.Choosing.{is_at, not_at}
use Rattle.locator.proofs.Stepping.{next_a, next_b, next_c, next_d, next_none}
use Rattle.locator.proofs.step.step.Goals as goal

-- the exchange by an index that is known
exchanged_by : (hs : Heads) {at j : ℕ} {first : Heads} → first ≡ exchanged_at at hs → at ≡ j → first ≡ exchanged_at j hs
exchanged_by hs e z = e ∙ ap (λ at. exchanged_at at hs) z

exchanged_last : (at : ℕ) (hs : Heads) {first : Heads} → first ≡ exchanged_at at hs → (at ≡ 1 → ⊥) → (at ≡ 2 → ⊥) → first ≡ exchanged_at 3 hs
exchanged_last at hs e n1 n2 = e ∙ rw (ne_eqb at 1 n1, ne_eqb at 2 n2) refl

turns_of : (m : ℕ) {i : ℕ} {shape : Layout} {xs : List ℕ} {hs first rs : Heads} {p a b c p' a' b' c' : List ℕ}
    → first ≡ hs → Turns m shape xs i first p a b c rs p' a' b' c' → Turns m shape xs i hs p a b c rs p' a' b' c'
turns_of m {i = i} {shape = shape} {xs = xs} {rs = rs} {p = p} {a = a} {b = b} {c = c} {p' = p'} {a' = a'} {b' = b'} {c' = c'} e r =
    subst (λ hs. Turns m shape xs i hs p a b c rs p' a' b' c') e r

pub returns-then-at-eq0 : goal.returns-then-at-eq0
returns-then-at-eq0 c =
    next_a c.args.field.now.tables.field c.requires.laid.0 c.requires.laid.1 c.requires.after (is_at c.lightest-best.ensures c.if-at-eq0.true) c.turn.ensures

pub returns-then-at-eq4 : goal.returns-then-at-eq4
returns-then-at-eq4 c =
    next_none c.args.field.now.tables.field c.requires.laid.0 c.requires.laid.1 c.requires.after (is_at c.lightest-best.ensures c.if-at-eq4.true)

pub returns-then-at-eq1 : goal.returns-then-at-eq1
returns-then-at-eq1 c =
    let turns = turns_of c.args.field.now.number (exchanged_by c.args.hs c.exchanged-first.ensures c.if-at-eq1.true) c.turn-then-at-eq1.ensures in
    rw c.exchanged.ensures (next_b c.args.field.now.tables.field c.requires.laid.0 c.requires.laid.1 c.requires.after (is_at c.lightest-best.ensures c.if-at-eq1.true) turns)

pub returns-then-at-eq2 : goal.returns-then-at-eq2
returns-then-at-eq2 c =
    let turns = turns_of c.args.field.now.number (exchanged_by c.args.hs c.exchanged-first.ensures c.if-at-eq2.true) c.turn-then-at-eq2.ensures in
    rw c.exchanged-then-at-eq2.ensures (next_c c.args.field.now.tables.field c.requires.laid.0 c.requires.laid.1 c.requires.after (is_at c.lightest-best.ensures c.if-at-eq2.true) turns)

pub returns : goal.returns
returns c =
    let turns = turns_of c.args.field.now.number (exchanged_last c.lightest-best.result.at c.args.hs c.exchanged-first.ensures c.if-at-eq1.false c.if-at-eq2.false) c.turn-2.ensures in
    rw c.exchanged-2.ensures
    (next_d c.args.field.now.tables.field c.requires.laid.0 c.requires.laid.1 c.requires.after
    (not_at c.lightest-best.ensures c.if-at-eq0.false) (not_at c.lightest-best.ensures c.if-at-eq1.false) (not_at c.lightest-best.ensures c.if-at-eq2.false) (not_at c.lightest-best.ensures c.if-at-eq4.false) turns)
