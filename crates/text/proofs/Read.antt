-- The whole sheet: what is read is the text that its definition writes, so that no two texts are read as one job.
use Prim.Native.Nat.{ℕ, ◌≤◌}
use mathlib.Core.Bool.{true, cond}
use mathlib.Core.Path.{◌≡◌, refl, sym, ◌∙◌, ap}
use mathlib.Core.List.{List, [], ◌∷◌, ◌++◌, append-nil}
use native.Mathlib.Omega.{arith}
use borrow.Author.Tests.{leb-true, eqb-true}
use lib.Dec.{eqb, leb}
use lib.ListN.{length, get_or}
use Rattle.text.specs.declared.sheet.Head.{Head}
use Rattle.text.specs.Text.{field_key, curve_key, dimension_key, places_key, message_key, line_of}
use Rattle.text.specs.Reading.{bad, got, then, line, exactly, head_of, header, Sheet, lists, sheet}
use Rattle.text.specs.Valid.{sheet_text}
use Rattle.text.specs.Valid.{Numbers, Valid}
use Rattle.text.proofs.Unique.{Parts, parts, both_parts, passed, same_value, same_rest, LineSays, line_unique, exactly_unique}

empty : (l : List ℕ) → length l ≡ 0 → l ≡ []
empty [] e = refl
empty (a ∷ l) e = absurd (omega arith)

one : (l : List ℕ) → length l ≡ 1 → l ≡ get_or l 0 0 ∷ []
one [] e = absurd (omega arith)
one (a ∷ []) e = refl
one (a ∷ b ∷ l) e = absurd (omega arith)

five : (l : List ℕ) → length l ≡ 5 → l ≡ get_or l 0 0 ∷ get_or l 1 0 ∷ get_or l 2 0 ∷ get_or l 3 0 ∷ get_or l 4 0 ∷ []
five [] e = absurd (omega arith)
five (a ∷ []) e = absurd (omega arith)
five (a ∷ b ∷ []) e = absurd (omega arith)
five (a ∷ b ∷ c ∷ []) e = absurd (omega arith)
five (a ∷ b ∷ c ∷ d ∷ []) e = absurd (omega arith)
five (a ∷ b ∷ c ∷ d ∷ f ∷ []) e = refl
five (a ∷ b ∷ c ∷ d ∷ f ∷ g ∷ l) e = absurd (omega arith)

-- a line of exactly so many numbers, in other words
as_list : (key : List ℕ) (count : ℕ) (s l m t : List ℕ) → l ≡ m → LineSays key count s l t → LineSays key count s m t
as_list key count s l m t e p = rw e at p

abbrev curve_list : Head → List ℕ
curve_list h = h.g1 ∷ h.g2 ∷ h.g3 ∷ h.g4 ∷ h.g6 ∷ []

-- ---- the first three lines

record HeaderSays (s : List ℕ) (h : Head) (t : List ℕ) : Type 0 where
  text : s ≡ line_of field_key (h.field ∷ []) ++ (line_of curve_key (curve_list h) ++ (line_of dimension_key (h.k ∷ []) ++ t))
  field : Numbers 1 (h.field ∷ [])
  curve : Numbers 5 (curve_list h)
  dimension : Numbers 1 (h.k ∷ [])

header_unique : (s : List ℕ) (h : Head) (t : List ℕ) → header s ≡ got h t → HeaderSays s h t
unfolding header
header_unique s h t e = first (both_parts (exactly field_key 1 s) _ h t e)
  where
    joins : (f c k u v w : List ℕ) → LineSays field_key 1 s (get_or f 0 0 ∷ []) u → LineSays curve_key 5 u (curve_list (head_of f c k)) v → LineSays dimension_key 1 v (get_or k 0 0 ∷ []) w
        → got (head_of f c k) w ≡ got h t → HeaderSays s h t
    joins f c k u v w p q r e =
        rw (← same_value e, ← same_rest e) (record {
          text = p.text ∙ ap (λ (x : List ℕ). line_of field_key (get_or f 0 0 ∷ []) ++ x) (q.text ∙ ap (λ (x : List ℕ). line_of curve_key (curve_list (head_of f c k)) ++ x) r.text);
          field = p.valid;
          curve = q.valid;
          dimension = r.valid;
        })

    third : (f u c v : List ℕ) → LineSays field_key 1 s f u × (length f ≡ 1) → LineSays curve_key 5 u c v × (length c ≡ 5) → Parts (exactly dimension_key 1 v) (λ k w. got (head_of f c k) w) h t → HeaderSays s h t
    third f u c v p q (parts k w o e) =
        let r = exactly_unique dimension_key 1 v k w o in
        joins f c k u v w (as_list _ _ _ _ _ _ (one f p.1) p.0) (as_list _ _ _ _ _ _ (five c q.1) q.0) (as_list _ _ _ _ _ _ (one k r.1) r.0) e

    second : (f u : List ℕ) → LineSays field_key 1 s f u × (length f ≡ 1) → Parts (exactly curve_key 5 u) (λ c v. then (exactly dimension_key 1 v) (λ k w. got (head_of f c k) w)) h t → HeaderSays s h t
    second f u p (parts c v q e) = third f u c v p (exactly_unique curve_key 5 u c v q) (both_parts (exactly dimension_key 1 v) _ h t e)

    first : Parts (exactly field_key 1 s) (λ f u. then (exactly curve_key 5 u) (λ c v. then (exactly dimension_key 1 v) (λ k w. got (head_of f c k) w))) h t → HeaderSays s h t
    first (parts f u q e) = second f u (exactly_unique field_key 1 s f u q) (both_parts (exactly curve_key 5 u) _ h t e)

-- ---- the last two

record ListsSay (h : Head) (s : List ℕ) (job : Sheet) : Type 0 where
  head : job.head ≡ h
  text : s ≡ line_of places_key job.places ++ line_of message_key job.message
  places : Numbers 288 job.places
  message : Numbers 288 job.message

lists_unique : (h : Head) (s : List ℕ) (job : Sheet) (t : List ℕ) → lists h s ≡ got job t → ListsSay h s job × (t ≡ [])
unfolding lists
lists_unique h s job t e = first (both_parts (line places_key 288 s) _ job t e)
  where
    joins : (J msg u v : List ℕ) → LineSays places_key 288 s J u → LineSays message_key 288 u msg v → (eqb (length v) 0 ≡ true) × (got (record { head = h; places = J; message = msg }) [] ≡ got job t) → ListsSay h s job × (t ≡ [])
    joins J msg u v p q (c, e) =
        let z = empty v (eqb-true (length v) 0 c) in (
          rw (← same_value e) (record {
            head = refl;
            text = p.text ∙ ap (λ (x : List ℕ). line_of places_key J ++ x) (q.text ∙ ap (λ (x : List ℕ). line_of message_key msg ++ x) z ∙ append-nil (line_of message_key msg));
            places = p.valid;
            message = q.valid;
          }),
          sym (same_rest e),
        )

    second : (J u : List ℕ) → LineSays places_key 288 s J u → Parts (line message_key 288 u) (λ msg v. cond (eqb (length v) 0) (got (record { head = h; places = J; message = msg }) []) bad) job t → ListsSay h s job × (t ≡ [])
    second J u p (parts msg v q e) = joins J msg u v p (line_unique message_key 288 u msg v q) (passed (eqb (length v) 0) _ e)

    first : Parts (line places_key 288 s) (λ J u. then (line message_key 288 u) (λ msg v. cond (eqb (length v) 0) (got (record { head = h; places = J; message = msg }) []) bad)) job t → ListsSay h s job × (t ≡ [])
    first (parts J u q e) = second J u (line_unique places_key 288 s J u q) (both_parts (line message_key 288 u) _ job t e)

-- ---- the whole

pub record Says (s : List ℕ) (job : Sheet) : Type 0 where
  pub text : s ≡ sheet_text job
  pub valid : Valid job

-- what is read as a job is that job's sheet, and the job is valid
pub read_unique : (s : List ℕ) (job : Sheet) (t : List ℕ) → sheet s ≡ got job t → Says s job
unfolding sheet sheet_text
read_unique s job t e = let p = passed (leb (length s) 4096) _ e in first (leb-true (length s) 4096 p.0) (both_parts (header s) lists job t p.1)
  where
    joins : length s ≤ 4096 → (h : Head) (u : List ℕ) → HeaderSays s h u → ListsSay h u job → Says s job
    joins short h u p q =
        let top = rw (← q.head) at p in
        let whole : s ≡ sheet_text job = top.text ∙ ap (λ (x : List ℕ). line_of field_key (job.head.field ∷ []) ++ (line_of curve_key (curve_list job.head) ++ (line_of dimension_key (job.head.k ∷ []) ++ x))) q.text in
        record {
          text = whole;
          valid = record { field = top.field; curve = top.curve; dimension = top.dimension; places = q.places; message = q.message; short = rw whole at short };
        }

    first : length s ≤ 4096 → Parts (header s) lists job t → Says s job
    first short (parts h u q e) = joins short h u (header_unique s h u q) (lists_unique h u job t e).0

-- two texts that are read as one job are one text
pub no_two : (s s' : List ℕ) (job : Sheet) (t t' : List ℕ) → sheet s ≡ got job t → sheet s' ≡ got job t' → s ≡ s'
no_two s s' job t t' e e' = (read_unique s job t e).text ∙ sym (read_unique s' job t' e').text
