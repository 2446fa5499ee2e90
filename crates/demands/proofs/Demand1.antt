-- Demand 1: the outcome of each operation is its list of tests and then what is accepted, which has the length of the lent output.
use Prim.Native.Nat.{ℕ, suc, ◌*◌, ◌-◌, ◌<◌, ◌≤◌}
use mathlib.Core.Path.{◌≡◌, refl, sym, ◌∙◌, ap, subst}
use mathlib.Core.Bool.{Bool, true, false, not, cond, ◌&&◌}
use mathlib.Core.List.{List, [], ◌∷◌, ◌++◌, map}
use native.Mathlib.Omega.{arith}
use lib.Dec.{eqb}
use lib.IntN.{ℤ}
use lib.ListN.{length, take, drop, replicate, length-append, length-drop, length-map, length-replicate}
use lib.Seq.{take-append_seam, drop-append_seam}
use borrow.Author.Tests.{eqb-true, eqb-false, leb-true, not-true}
use Rattle.basics.specs.Bits.{word as word_at}
use Rattle.basics.specs.Lists.{written, table}
use Rattle.basics.specs.Outcome.{Answer, Done, Counted, accepted, counted, answer, counts, Meets}
use Rattle.basics.proofs.Lists.{both_left, both_right, both_true, length_table, length_filter}
use Rattle.field.specs.Galois.{galois, width}
use Rattle.field.proofs.Galois.{is_field_lem}
use Rattle.elliptic.specs.declared.Curve.{Curve}
use Rattle.elliptic.specs.declared.Point.{Point}
use Rattle.elliptic.specs.Curve.{affine_points}
use Rattle.codewords.specs.Code.{Code, n, code_answer}
use Rattle.codewords.specs.Codewords.{agrees, all_places, places_differ, places, choice, symbols, message, codewords, codeword, recovered, agreeing, agreed}
use Rattle.codewords.specs.Codewords.{systematic_function, systematic_word, matrix, dependent, usable, relation, pick}
use Rattle.codewords.specs.Demand3.{Systematic}
use Rattle.codewords.proofs.Tests.{filter_in}
use Rattle.codewords.proofs.Accepted.{accepted_done}
use Rattle.codewords.proofs.Places.{choice_length, message_listed}
use Rattle.codewords.proofs.Demand2.{demand2}
use Rattle.codewords.proofs.Demand3.{demand3 as on-codewords}
use Rattle.point_count.proofs.Bound.{bound}
use Rattle.curve.specs.Points.{points_outcome, room as pointRoom}
use Rattle.code.specs.Heard.{heard_places, heard_outcome, heard_at}
use Rattle.hours.specs.Means.{mean_at}
use Rattle.hours.specs.Packing.{unpacked_at, stream}
use Rattle.rolling.specs.State.{state_of}
use Rattle.rolling.specs.Bytes.{rolling_outcome}
use Rattle.rolling.proofs.InBytes.{length_state, fresh_length, advanced_length}
use Rattle.solving.specs.Tests.{Lent, room, cleared}
use Rattle.coder.specs.Outcomes.{joined}
use Rattle.decoding.specs.Near.{correctable, corrected}
use Rattle.patterns.specs.Best.{best}
use Rattle.patterns.proofs.Promises.{promises}
use Rattle.best.specs.Outcomes.{Lent as BestLent}
use Rattle.text.specs.Reading.{Sheet}
use Rattle.sheet.specs.Job.{code_for, job_outcome, answer_to, sheet_outcome, room as sheetRoom, Answers as AnswersSheet}
use Rattle.demands.specs.Call.{Call, call, Of}
use Rattle.demands.specs.Best.{BestCall, OfBest}
use Rattle.demands.specs.Order.{Test, first, numbers, code_tests, points_tests, fresh_tests, rolling_tests, heard_tests, job_tests, sheet_tests}
use Rattle.demands.specs.Demand1.{Answers, Filled, Listed, Worked, PointsAnswers, RollingAnswers, BestAnswers, Works, Demand1}
use Rattle.demands.proofs.Passing.{accepted_on, counted_on}
use Rattle.demands.proofs.Ones.{one_word, is_recovered, the_in, in_codeword, agreed_some, codeword_length, the_function, the_within}
use Rattle.demands.proofs.Rows.{joined_length, row_lengths, row_count}
use Rattle.demands.proofs.Order.{Hold, order_of_tests, first_hold, order_answer, answers, code_answers, accepts_accepted, accepts_counted}

-- ---- what is accepted

filled : {A : Type 0} {l : List A} {r : Answer} {old new : List A} → length l ≡ length old → Meets (accepted l) r old new → Filled Done l r old new
filled e m = let (d, w) = accepted_on m in record { done = d; written = w; whole = e }

module _ (l old : List ℕ) (e : length l ≤ length old) where
  listed : {r : Answer} {new : List ℕ} → r ≡ Counted (length l) → new ≡ written l old → Listed l r old new
  listed c w =
      record {
        counted = c;
        front = ap (take (length l)) w ∙ take-append_seam l (drop (length l) old);
        rest = ap (drop (length l)) w ∙ drop-append_seam l (drop (length l) old);
        whole = ap length w ∙ omega (arith, length-append l (drop (length l) old), length-drop (length l) old);
      }

-- the working space
zeros_front : (m : ℕ) (l : List ℕ) → take m (replicate m 0 ++ l) ≡ replicate m 0
zeros_front m l = ap (λ i. take i (replicate m 0 ++ l)) (sym (length-replicate m 0)) ∙ take-append_seam (replicate m 0) l

zeros_rest : (m : ℕ) (l : List ℕ) → drop m (replicate m 0 ++ l) ≡ l
zeros_rest m l = ap (λ i. drop i (replicate m 0 ++ l)) (sym (length-replicate m 0)) ∙ drop-append_seam (replicate m 0) l

zeros_length : (m : ℕ) (l : List ℕ) → m ≤ length l → length (replicate m 0 ++ drop m l) ≡ length l
zeros_length m l h = omega (arith, length-append (replicate m 0) (drop m l), length-replicate {A = ℕ} m 0, length-drop m l)

worked : {a : Answer} {l : List ℕ} (c : Call) → length l ≡ length c.out → room ≤ length c.work
    → (c.answer ≡ a) × (◌≡◌ {A = Lent} (c.out_after, c.work_after) (l, cleared c.work)) → Worked a l c
worked c e h (d, w) =
    let after = ap (λ (m : Lent). m.1) w in
    record {
      output = record { done = d; written = ap (λ (m : Lent). m.0) w; whole = e };
      zeros = ap (take room) after ∙ zeros_front room (drop room c.work);
      untouched = ap (drop room) after ∙ zeros_rest room (drop room c.work);
      whole = ap length after ∙ zeros_length room c.work h;
    }

-- ---- Points and Heard

points_call : (m : ℕ) (C : Curve) (r : Answer) (xs ys xs' ys' : List ℕ) → Meets (points_outcome m C xs ys) r (xs, ys) (xs', ys') → PointsAnswers m C r xs ys xs' ys'
unfolding points_outcome
points_call m C r xs ys xs' ys' =
    answers _ (points_tests m C xs ys) _ refl (accepts_counted {M = Lent} _ _)
    (λ h k.
    let (f, (b, (s, (sizes, _)))) = first_hold (points_tests m C xs ys) h in
    let most = bound m C (is_field_lem m f) b (not-true _ s) in
    let (count, new) = counted_on k in (
      listed (map (λ P. P.x) (affine_points (galois m) C)) xs
          (few most (λ P. P.x) xs (eqb-true _ _ (both_left (eqb (length xs) pointRoom) (eqb (length ys) pointRoom) sizes)))
          (count ∙ ap Counted (sym (length-map (affine_points (galois m) C) (λ P. P.x)))) (ap (λ (p : Lent). p.0) new),
      listed (map (λ P. P.y) (affine_points (galois m) C)) ys
          (few most (λ P. P.y) ys (eqb-true _ _ (both_right (eqb (length xs) pointRoom) (eqb (length ys) pointRoom) sizes)))
          (count ∙ ap Counted (sym (length-map (affine_points (galois m) C) (λ P. P.y)))) (ap (λ (p : Lent). p.1) new),
    ))
  where
    few : length (affine_points (galois m) C) ≤ pointRoom → (f : Point → ℕ) (l : List ℕ) → length l ≡ pointRoom → length (map f (affine_points (galois m) C)) ≤ length l
    few h f l e = omega (arith, e, length-map (affine_points (galois m) C) f)

heard_call : (code : Code) (mask : List ℕ) (r : Answer) (old new : List ℕ) → Meets (heard_outcome code mask old) r old new
    → Answers (1 ∷ 2 ∷ 3 ∷ 4 ∷ 5 ∷ 6 ∷ 7 ∷ 8 ∷ 8 ∷ 9 ∷ []) (heard_tests code mask old) r old new (Listed (heard_places mask (n code)) r old new)
heard_call code mask r old new =
    code_answers code _ _ _ refl (accepts_counted _ _)
    (λ done (a, (b, c)) m. let (count, new) = counted_on m in listed (heard_places mask (n code)) old (few done (eqb-true _ _ b)) count new)
  where
    few : code_answer code ≡ Done → length old ≡ 288 → length (heard_places mask (n code)) ≤ length old
    few done e = omega (arith, e, (accepted_done code done).n_most, length_filter (heard_at mask) (table suc (n code)), length_table suc (n code))

-- ---- the rolling mean

rolling_call : (state : List ℕ) (hour : ℕ) (mean : ℤ) (out : List ℤ) (r : Answer) (state' : List ℕ) (out' : List ℤ)
    → Meets (rolling_outcome state hour mean out) r (state, out) (state', out') → RollingAnswers state hour mean out r state' out'
rolling_call state hour mean out r state' out' =
    answers _ (rolling_tests state hour mean out) _ refl (accepts_accepted {M = List ℕ × List ℤ} _)
    (λ h m.
    let (long, (one, _)) = first_hold (rolling_tests state hour mean out) h in
    let (done, new) = accepted_on m in (
      record { done = done; written = ap (λ p. p.0) new; whole = length_state _ (advanced_length state hour mean) ∙ sym (eqb-true _ _ long) },
      record { done = done; written = ap (λ p. p.1) new; whole = sym (eqb-true _ _ one) },
    ))

-- ---- the lengths of what the others give

module _ (code : Code) (done : code_answer code ≡ Done) where
  function_length : (f : List ℕ) → message code f ≡ true → length f ≡ code.k
  function_length f m = (message_listed code f m).size

  -- what is listed first among agreeing codewords is one of them
  agreed_length : (J us : List ℕ) → agreed code J us ≡ true → length (systematic_word code J us) ≡ n code
  unfolding systematic_word agreeing
  agreed_length J us h =
      codeword_length code done (systematic_word code J us)
      (in_codeword code (filter_in (λ w. agrees w J us) (codewords code) (the_in (agreeing code J us) (agreed_some code J us h))).0)

  recovered_length : (w : List ℕ) → codeword code w ≡ true → length (recovered code w) ≡ code.k
  recovered_length w h = function_length (recovered code w) (is_recovered code done w h)

  corrected_length : (r : List ℕ) → correctable code r ≡ true → length (corrected code r) ≡ n code
  corrected_length r h = codeword_length code done (corrected code r) (the_within code r h).is_codeword

  pick_length : (J : List ℕ) → places code J ≡ true → code.k ≤ length J → not (eqb (length J) code.k && dependent code J) ≡ true → length (pick code J) ≡ code.k
  unfolding usable choice
  pick_length J p least free = by (eqb (length J) code.k) refl free
    where
      by : (b : Bool) → eqb (length J) code.k ≡ b → not (b && dependent code J) ≡ true → length (pick code J) ≡ code.k
      by true e u =
          ap length ((on-codewords code done).pick_all J (both_true (places code J) _ p e) ∙ ap (λ b. cond b J (take (code.k - 1) J)) u) ∙ eqb-true _ _ e
      by false e u =
          let more : code.k < length J = omega (arith, least, eqb-false (length J) code.k e) in
          choice_length code (pick code J) ((on-codewords code done).pick_more J p more).is_choice

  module _ (J : List ℕ) (p : places code J ≡ true) (e : eqb (length J) code.k ≡ true) where
    is_choice : choice code J ≡ true
    unfolding choice
    is_choice = both_true (places code J) (eqb (length J) code.k) p e

    relation_length : dependent code J ≡ true → length (relation code J) ≡ code.k
    relation_length d = function_length (relation code J) ((on-codewords code done).related J is_choice d).is_function

    matrix_length : usable code J ≡ true → length (joined (matrix code J)) ≡ code.k * n code
    matrix_length u = joined_length (n code) (matrix code J) (row_lengths code done J is_choice u) ∙ ap (λ k. k * n code) (row_count code done J is_choice u)

    module _ (msg : List ℕ) (s : symbols code msg ≡ true) (l : eqb (length msg) code.k ≡ true) (u : usable code J ≡ true) where
      one : Systematic code J msg
      unfolding message
      one = (on-codewords code done).at_usable J msg is_choice (both_true (symbols code msg) (eqb (length msg) code.k) s l) u

      word_length : length (systematic_word code J msg) ≡ n code
      word_length = codeword_length code done _ (one_word code J msg one.one_word).is_codeword

      systematic_length : length (systematic_function code J msg) ≡ code.k
      systematic_length = function_length _ (the_function code done J msg one).is_function

are_places : (code : Code) (J : List ℕ) → all_places code J ≡ true → places_differ code J ≡ true → places code J ≡ true
unfolding places
are_places code J a d = both_true (all_places code J) (places_differ code J) a d

-- ---- the job sheet

job_first : (job : Sheet) → answer (job_outcome job) ≡ first (job_tests (code_for job.head) job.places job.message)
unfolding job_outcome
job_first job = order_answer (job_tests (code_for job.head) job.places job.message) _

sheet_call : (s : List ℕ) (r : Answer) (old new : List ℕ) → AnswersSheet s old r new → Answers (8 ∷ []) (sheet_tests old) r old new (Listed (answer_to s) r old new)
unfolding sheet_outcome
sheet_call s r old new a =
    answers _ (sheet_tests old) (counted (length (answer_to s)) (written (answer_to s) old)) refl (accepts_counted _ _)
    (λ h m.
    let (count, new) = counted_on m in
    let fits = leb-true sheetRoom (length old) (first_hold (sheet_tests old) h).0 in
    let few = subst (λ r. counts r ≤ sheetRoom) count a.few in
    listed (answer_to s) old (omega (arith, few, fits)) count new)
    a.meets

-- ---- of an operation that is lent a working space: what it gives has the length of the output, and there is room to work
working : (code : Code) (ns : List ℕ) (ts : List Test) (l : List ℕ) (c : Call) → numbers (code_tests code ++ ts) ≡ ns
    → (code_answer code ≡ Done → Hold ts → (length l ≡ length c.out) × (room ≤ length c.work))
    → Of (λ out work. order_of_tests (code_tests code ++ ts) (accepted (l, cleared work))) c → Works ns (code_tests code ++ ts) l c
working code ns ts l c e w =
    code_answers code ns ts (accepted (l, cleared c.work)) e (accepts_accepted {M = Lent} _) (λ done held m. let (size, space) = w done held in worked c size space (accepted_on m))

-- ---- Best

best_call : (code : Code) (received trusts : List ℕ) (budget : ℕ) (c : BestCall) → OfBest code received trusts budget c → BestAnswers code received trusts budget c
best_call code received trusts budget c =
    code_answers code _ _ _ refl (accepts_accepted {M = BestLent} _)
    (λ done (a, (t, (b, (f, (r, (s, _)))))) m.
    let (d, new) = accepted_on m in
    let is = (promises code done received trusts s (eqb-true _ _ a) (eqb-true _ _ t)).best_codeword budget in
    let size = codeword_length code done (best code received trusts budget) is ∙ sym (eqb-true _ _ b) in (
      worked (call c.answer c.out c.work c.out_after c.work_after) size (leb-true _ _ r) (d, ap (λ (m : BestLent). (m.0, m.2)) new),
      record { done = d; written = ap (λ (m : BestLent). m.1) new; whole = sym (eqb-true _ _ f) },
    ))

-- THEOREM
pub demand1 : Demand1
demand1 =
    record {
      points = points_call;
      points_fit = bound;
      means = λ ts rs h r old new. answers _ _ _ refl (accepts_accepted _) (λ p. filled (length_table (mean_at ts rs h) (length old)));
      rolling_fresh = λ r old new.
          answers _ (fresh_tests old) _ refl (accepts_accepted _)
          (λ h. filled (length_state (state_of []) fresh_length ∙ sym (eqb-true _ _ (first_hold (fresh_tests old) h).0)));
      rolling = rolling_call;
      plain = λ code f r old new.
          code_answers code _ _ _ refl (accepts_accepted _) (λ done (a, (b, c)). filled ((demand2 code done).word_length f ∙ sym (eqb-true _ _ b)));
      pack = λ code means r old new.
          code_answers code _ _ _ refl (accepts_accepted _) (λ done p. filled (length_table (word_at (width code.field) (stream means (length old))) (length old)));
      unpack = λ code block r old new.
          code_answers code _ _ _ refl (accepts_accepted _) (λ done p. filled (length_table (unpacked_at (width code.field) block) (length old)));
      heard = heard_call;
      recover = λ code w c.
          working code _ _ _ c refl (λ done (a, (b, (r, (s, (t, _))))). (recovered_length code done w t ∙ sym (eqb-true _ _ b), leb-true _ _ r));
      of_systematic_function = λ code J msg c.
          working code _ _ _ c refl
          (λ done (e, (l, (b, (r, (p, (d, (s, (u, _)))))))). (systematic_length code done J (are_places code J p d) e msg s l u ∙ sym (eqb-true _ _ b), leb-true _ _ r));
      of_systematic_word = λ code J msg c.
          working code _ _ _ c refl
          (λ done (e, (l, (b, (r, (p, (d, (s, (u, _)))))))). (word_length code done J (are_places code J p d) e msg s l u ∙ sym (eqb-true _ _ b), leb-true _ _ r));
      matrix = λ code J c.
          working code _ _ _ c refl
          (λ done (e, (b, (r, (p, (d, (u, _)))))). (matrix_length code done J (are_places code J p d) e u ∙ sym (eqb-true _ _ b), leb-true _ _ r));
      relation = λ code J c.
          working code _ _ _ c refl
          (λ done (e, (b, (r, (p, (d, (u, _)))))). (relation_length code done J (are_places code J p d) e u ∙ sym (eqb-true _ _ b), leb-true _ _ r));
      pick = λ code J c.
          working code _ _ _ c refl
          (λ done (m, (b, (r, (p, (d, (l, (f, _))))))). (pick_length code done J (are_places code J p d) (leb-true _ _ l) f ∙ sym (eqb-true _ _ b), leb-true _ _ r));
      rebuild = λ code J us c.
          working code _ _ _ c refl
          (λ done (m, (e, (b, (r, (p, (d, (s, (l, (f, (g, _)))))))))). (agreed_length code done J us g ∙ sym (eqb-true _ _ b), leb-true _ _ r));
      correct = λ code w c.
          code_answers code _ _ _ refl (accepts_counted {M = Lent} _ _)
          (λ done (a, (b, (r, (s, (t, _))))) m. worked c (corrected_length code done w t ∙ sym (eqb-true _ _ b)) (leb-true _ _ r) (counted_on m));
      best = best_call;
      job = λ job. (refl, job_first job);
      sheet = sheet_call;
    }
