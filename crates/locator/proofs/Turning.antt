-- What a place makes of the arrays is what it makes of the rows: defects and E are sums and multiples, and neither reaches into the other.
use Prim.Native.Nat.{ℕ, zero, suc, ◌+◌, ◌-◌, ◌<◌, ◌≤◌}
use mathlib.Core.Path.{◌≡◌, refl, sym, ◌∙◌, ap, ap₂}
use mathlib.Core.List.{List, [], ◌∷◌, ◌++◌}
use native.Mathlib.Omega.{arith}
use lib.ListN.{length, get_or, take, replicate}
use Rattle.field.specs.Sum.{◌⊕◌}
use Rattle.field.specs.Galois.{IsField, galois, product, inverse}
use Rattle.field.proofs.Galois.{galois_field}
use Rattle.elliptic.specs.Curve.{point}
use Rattle.elliptic.specs.Pair.{add_scaled, times_linear}
use Rattle.values.specs.Values.{gained_at}
use Rattle.decoding.specs.Rows.{Row, top, lifted, mixed}
use Rattle.decoding.proofs.Elements.{defect_mixed}
use Rattle.locator.specs.Arrays.{Head, Heads, Layout, Multiples, den_in, head, defect_at, MixesDen, LiftsDen, Live, Holds, Lifts, From, lifted_at, Cancels, DensTurn, TurnRoom, Turns}
use Rattle.locator.proofs.Dens.{longer_most}

-- the front of an array is decided by its elements
take_same : (s : ℕ) (a b : List ℕ) → length a ≡ length b → ((j : ℕ) → j < s → get_or a j 0 ≡ get_or b j 0) → take s a ≡ take s b
take_same zero a b e h = refl
take_same (suc s) [] [] e h = refl
take_same (suc s) [] (y ∷ b) e h = absurd (omega arith)
take_same (suc s) (x ∷ a) [] e h = absurd (omega arith)
take_same (suc s) (x ∷ a) (y ∷ b) e h = ap₂ ◌∷◌ (h 0 (omega arith)) (take_same s a b (omega arith) (λ j l. h (suc j) (omega arith)))

den_same : (room s d : ℕ) {rule : ℕ → ℕ} {a b : List ℕ} → s ≤ d → From d rule a b → den_in room s b ≡ den_in room s a
den_same room s d {a = a} {b = b} h f = ap (λ l. l ++ replicate (room - s) 0) (take_same s b a f.size (λ j l. f.before j (omega arith)))

-- E and the defects to come stay apart
apart : (t i s : ℕ) → t ≤ 142 → s ≤ suc t → s ≤ suc i + suc i + 3 → s ≤ head + suc i
apart t i s few h l = omega arith

module _ {m : ℕ} (k t : ℕ) (field : IsField m) (xs ys us : List ℕ) (i : ℕ) (inside : i < length xs) (few : t ≤ 142) where
  module _ {hp : Head} {p : List ℕ} {w : Row} (hold : Holds m k t xs ys us i hp p w) (room : w.key ≤ top k t) where
    -- the multiple of the pivot is the one that the row gains
    pub gains : {h : Head} {a a₁ a₂ p₁ : List ℕ} {c r : ℕ} {h' : Head} {rule : ℕ → ℕ} → c ≡ product m (get_or a (head + i) 0) (inverse m (get_or p (head + i) 0))
        → From (head + suc i) rule p p₁ → From (head + suc i) (gained_at m c p a) a a₁ → MixesDen m c hp.size p₁ h.size r a₁ a₂
        → h'.key ≡ h.key → h'.size ≡ r → (v : Row) → Holds m k t xs ys us i h a v
        → Holds m k t xs ys us (suc i) h' a₂ (mixed (galois m) (product m (defect_at m xs ys us v i) (inverse m (defect_at m xs ys us w i))) w v)
    unfolding mixed
    gains {h} {a} {a₁} {a₂} {p₁} {c} {r} {h'} e fp fa mix ek es v g =
        record {
          size = mix.behind.size ∙ fa.size ∙ g.size;
          key_is = g.key_is ∙ sym ek;
          most = most;
          slow = slow;
          live = λ l. live (g.live l);
        }
      where
        most : h'.size ≤ suc t
        most = rw (es, mix.size_is) (longer_most h.size hp.size (suc t) g.most hold.most)

        slow : h'.size ≤ suc i + suc i + 3
        slow = rw (es, mix.size_is) (longer_most h.size hp.size (suc i + suc i + 3) (omega (arith, g.slow)) (omega (arith, hold.slow)))

        live : Live m t xs ys us i h.size a v → Live m t xs ys us (suc i) h'.size a₂ (mixed (galois m) (product m (defect_at m xs ys us v i) (inverse m (defect_at m xs ys us w i))) w v)
        live x =
            let q : Live m t xs ys us i hp.size p w = hold.live room in
            let same : c ≡ product m (defect_at m xs ys us v i) (inverse m (defect_at m xs ys us w i)) =
            e ∙ ap₂ (λ y z. product m y (inverse m z)) (x.defects i (omega arith) inside) (q.defects i (omega arith) inside) in
            record {
              den_is =
                  ap₂ (add_scaled (galois m) (product m (defect_at m xs ys us v i) (inverse m (defect_at m xs ys us w i)))) (q.den_is ∙ sym (den_same (suc t) hp.size (head + suc i) (apart t i hp.size few hold.most (omega (arith, hold.slow))) fp))
                  (x.den_is ∙ sym (den_same (suc t) h.size (head + suc i) (apart t i h.size few g.most (omega (arith, g.slow))) fa))
                  ∙ ap (λ c. add_scaled (galois m) c (den_in (suc t) hp.size p₁) (den_in (suc t) h.size a₁)) (sym same) ∙ sym (mix.mixed (suc t) g.most hold.most) ∙ ap (λ s. den_in (suc t) s a₂) (sym es);
              defects = λ j l b.
                  mix.behind.kept (head + j) (omega (arith, es, apart t i h'.size few most slow))
                  ∙ fa.at (head + j) (omega arith) (omega (arith, g.size))
                  ∙ ap₂ (λ y z. y ⊕ product m c z) (x.defects j (omega arith) b) (q.defects j (omega arith) b)
                  ∙ ap (λ c. defect_at m xs ys us v j ⊕ product m c (defect_at m xs ys us w j)) same
                  ∙ sym (defect_mixed (galois_field field) (point (get_or xs j 0) (get_or ys j 0)) (get_or us j 0) (product m (defect_at m xs ys us v i) (inverse m (defect_at m xs ys us w i))) w v);
            }

    -- and the pivot itself
    pub lifts : {p₁ p₂ : List ℕ} {h' : Head} → From (head + suc i) (lifted_at m xs (get_or xs i 0) p) p p₁ → LiftsDen m (get_or xs i 0) (suc t) hp.size h'.size p₁ p₂
        → h'.key ≡ hp.key + 4 → Lifts m k t w → Holds m k t xs ys us (suc i) h' p₂ (lifted (galois m) (get_or xs i 0) w)
    unfolding lifted
    lifts {p₁} {p₂} {h'} f den ek lossless =
        record {
          size = den.behind.size ∙ f.size ∙ hold.size;
          key_is = ap (λ κ. κ + 4) hold.key_is ∙ sym ek;
          most = den.most;
          slow = omega (arith, den.slow, hold.slow);
          live = λ l.
              let q : Live m t xs ys us i hp.size p w = hold.live room in
              record {
                den_is =
                    ap (times_linear (galois m) (get_or xs i 0)) (q.den_is ∙ sym (den_same (suc t) hp.size (head + suc i) (apart t i hp.size few hold.most (omega (arith, hold.slow))) f))
                    ∙ sym den.lifted;
                defects = λ j g b.
                    let back : head + j - head ≡ j = omega arith in
                    den.behind.kept (head + j) (omega (arith, apart t i h'.size few den.most (omega (arith, den.slow, hold.slow))))
                    ∙ f.at (head + j) (omega arith) (omega (arith, hold.size))
                    ∙ ap₂ (λ n y. product m (get_or xs n 0 ⊕ get_or xs i 0) y) back (q.defects j (omega arith) b)
                    ∙ sym (lossless l (get_or xs i 0) (point (get_or xs j 0) (get_or ys j 0)) (get_or us j 0));
              };
        }

-- all four
pub turns : {m : ℕ} (field : IsField m) {shape : Layout} {xs : List ℕ} {i : ℕ} {hs rs : Heads} {p a b c p₁ a₁ b₁ c₁ p₂ a₂ b₂ c₂ : List ℕ} {ts : Multiples}
    → TurnRoom shape i xs hs p a b c → Cancels m (head + i) p a b c ts
    → From (head + suc i) (lifted_at m xs (get_or xs i 0) p) p p₁ → From (head + suc i) (gained_at m ts.a p a) a a₁
    → From (head + suc i) (gained_at m ts.b p b) b b₁ → From (head + suc i) (gained_at m ts.c p c) c c₁
    → DensTurn m (get_or xs i 0) (suc shape.t) ts hs p₁ a₁ b₁ c₁ rs p₂ a₂ b₂ c₂ → Turns m shape xs i hs p a b c rs p₂ a₂ b₂ c₂
turns {m} field {shape} {xs} {i} {hs} {rs} room cancels fp fa fb fc dens =
    record {
      keys = dens.keys;
      pivot = λ ys us w hold l lossless. lifts shape.k shape.t field xs ys us i room.inside room.few hold l fp dens.p_lifts dens.keys.0 lossless;
      others = λ ys us w hold l. (
        gains shape.k shape.t field xs ys us i room.inside room.few hold l cancels.a_is fp fa dens.a_mixes dens.keys.1 refl,
        gains shape.k shape.t field xs ys us i room.inside room.few hold l cancels.b_is fp fb dens.b_mixes dens.keys.2 refl,
        gains shape.k shape.t field xs ys us i room.inside room.few hold l cancels.c_is fp fc dens.c_mixes dens.keys.3 refl,
      );
    }
