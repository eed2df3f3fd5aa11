-- What a round of whoever writes a link costs: from the head of a loop its first step is one of those that are left at most.
use Rattle.std.proofs.Common.{◌≡◌, ◌≢◌, ℕ, ◌+◌, ◌-◌, ◌*◌, ◌%◌, ◌==◌, ◌<◌, ◌≤◌, Bool, true, false, List, [], ◌∷◌, length, drop, refl, sym, ap, ◌∙◌, subst, arith, cond, eqb, leb, ltb, eq-eqb, eqb-true, lt-ltb, ltb-true, leb-false}
use Rattle.std.proofs.lemmas.Bool.{true≢false}
use Rattle.std.proofs.lemmas.List.{length-drop}
use Rattle.sock_words.specs.declared.plain.Plan.{Plan}
use Rattle.sock_words.specs.PackedWords.{socket_id_version, socket_id_slot, vref_version, vref_nref, ticket_request, ticket_generation}
use Rattle.seat_programs.specs.sock_io.specs.declared.link.Put.{Put}
use Rattle.seat_programs.specs.sock_io.specs.declared.link.Put.TheVariants as puts
use Rattle.seat_programs.specs.sock_io.specs.declared.link.Ready.TheVariants as asks
use Rattle.sock_model.specs.declared.chain.Heading.{Heading}
use Rattle.sock_model.specs.declared.marks.Mark.{Mark}
use Rattle.sock_model.specs.declared.marks.Mark.TheVariants.{Hold, Coding, Saw, Failer, Stored, Told, Zero}
use Rattle.sock_model.specs.declared.marks.SlotMark.{SlotMark}
use Rattle.sock_model.specs.declared.view.View.{View}
use Rattle.sock_model.specs.MarkWeights.{is_probe, is_hold, is_coding, is_saw}
use Rattle.sock_model.specs.Marks.{about, at, without_at}
use Rattle.sock_model.specs.SlotRows.{marks_of, back, looked}
use Rattle.sock_model.specs.ChainRows.{with_right}
use Rattle.seat_programs.specs.TableSteps.{TableStep, OnSlot, OnChain, OnPlace, LookWord, LoadCode, SetOdd, SubRef, StoreCode, StorePlace, DropPlace, EmptyHead, ReadNext, ReverseNext, FreeRequest}
use Rattle.seat_programs.specs.Writings.{Holder, Writing, Puts, Waits, Empties, Reversing}
use Rattle.seat_programs.specs.Programs.{Program, Do, TakeMessage, TakeHome, PutBytes, Write, LAST_GENERATION, set_failed}
use Rattle.seat_programs.specs.SendAndWritePrograms.{freed, one_more, passed, passed_telling, tell_drop, placed, dropped, put_answered, block, first_put}
use Rattle.seat_programs.specs.BufferParts.{part}
use Rattle.seat_programs.specs.PostPrograms.{post}
use Rattle.seat_programs.specs.Ticks.{FitsPut}
use Rattle.sock_steps.proofs.SumsAsMarksChange.{either_way}
use Rattle.sock_steps.specs.slot_steps.proofs.SlotWeightSums.{about-here}
use Rattle.sock_steps.specs.slot_steps.proofs.RuleNumbers.{only-same}
use Rattle.seat_programs.specs.StepTables.{row}
use Rattle.seat_programs.specs.StepViews.{by_right}
use Rattle.seat_programs.specs.StepsOfSlots.{looked_clean}
use Rattle.seat_programs.specs.StepsOfMessages.{took_message}
use Rattle.seat_programs.specs.StepsOfLinks.{link_home_again, link_away, took_bytes}
use Rattle.seat_programs.specs.StepsOfSlots.{IsOfHeld, FindsFailed}
use Rattle.sock_runs.specs.program_steps.specs.Writes.{At}
use Rattle.sock_runs.specs.program_steps.specs.TicksLeftAtMost.{POST, weight, cost, saw_failed, asking_cost, failing_cost, waiting_cost, loop_cost, LastsFor}
use Rattle.sock_runs.specs.program_steps.proofs.Leaves.{right_way}
use Rattle.runs_end.proofs.IdCosts.{lasts_more, post_lasts}
use Rattle.sock_words.specs.Totals.{total}

-- ## Numbers

-- whatever the seat's view
abbrev pub Lasting : Plan → Program → ℕ → Type 0
Lasting p program n = (v : View) → LastsFor p v program n

pub lasting_more : (p : Plan) (program : Program) (m n : ℕ) → m ≤ n → Lasting p program m → Lasting p program n
lasting_more p program m n le l v = lasts_more p v program m n le (l v)

-- where one of two programs follows, each for its reason
pub either_lasts : (p : Plan) (a b : Program) (n : ℕ) (x : Bool) → Lasting p a n → Lasting p b n → Lasting p (cond x a b) n
either_lasts p a b n true k l = k
either_lasts p a b n false k l = l

-- a step, whatever it finds
pub does : (p : Plan) (call : TableStep) (next : ℕ → Program) (n m : ℕ) → n + cost call ≤ m → ((found : ℕ) → Lasting p (next found) n) → Lasting p (Do call next) m
does p call next n m le l v = (n, le, λ found hand f. l found (row p call found hand v))

-- a life is set failed, by whoever holds it or not
pub set_failed_lasts : (p : Plan) (id code : ℕ) (next : ℕ → Program) (n : ℕ) → ((found : ℕ) → Lasting p (next found) n) → Lasting p (set_failed id code next) (3 + n)
set_failed_lasts p id code next n l v = let i : ℕ = socket_id_slot id in let h : ℕ = socket_id_version id in (
  2 + n,
  omega arith,
  λ found hand f. either_lasts p (Do (OnSlot (StoreCode i h code)) (λ _. Do (OnSlot (SubRef i)) (λ _. next found))) (next found) (2 + n) (vref_version found % 2 == 0)
      (does p (OnSlot (StoreCode i h code)) (λ _. Do (OnSlot (SubRef i)) (λ _. next found)) (1 + n) (2 + n) (omega arith) (λ a. does p (OnSlot (SubRef i)) (λ _. next found) n (1 + n) (omega arith) (λ b. l found)))
      (lasting_more p (next found) n (2 + n) (omega arith) (l found)) (row p (OnSlot (SetOdd i)) found hand v),
)

-- ## Notes that a seat saw a life failed

-- a mark that goes is none of these
saw_stays : (g : Mark → ℕ) → ((w : ℕ) → g (Saw w) ≡ 0) → (x i : ℕ) (es : List SlotMark) → total (is_saw x) (about i es) ≤ total (is_saw x) (about i (without_at i g es))
saw_stays g none_ x i [] = omega arith
saw_stays g none_ x i (e ∷ es) = by_slot (saw_stays g none_ x i es) (eqb e.slot i) refl
  where
    not_saw : (m : Mark) → eqb (g m) 0 ≡ false → is_saw x m ≡ 0
    not_saw (Saw w) some_ = absurd (true≢false (sym (eq-eqb (g (Saw w)) 0 (none_ w)) ∙ some_))
    not_saw _ some_ = refl

    by_weight : total (is_saw x) (about i es) ≤ total (is_saw x) (about i (without_at i g es)) → (b : Bool) → eqb (g e.mark) 0 ≡ b
        → is_saw x e.mark + total (is_saw x) (about i es) ≤ total (is_saw x) (about i (cond b (at i e.mark ∷ without_at i g es) es))
    by_weight ih true is = omega (arith, ih, ap (total (is_saw x)) (about-here i e.mark (without_at i g es)))
    by_weight ih false is = omega (arith, not_saw e.mark is)

    by_slot : total (is_saw x) (about i es) ≤ total (is_saw x) (about i (without_at i g es)) → (b : Bool) → eqb e.slot i ≡ b
        → total (is_saw x) (cond b (e.mark ∷ about i es) (about i es)) ≤ total (is_saw x) (about i (cond b (cond (eqb (g e.mark) 0) (e ∷ without_at i g es) es) (e ∷ without_at i g es)))
    by_slot ih true is = subst (λ j. is_saw x e.mark + total (is_saw x) (about i es) ≤ total (is_saw x) (about i (cond (eqb (g e.mark) 0) (at j e.mark ∷ without_at i g es) es))) (sym (eqb-true e.slot i is)) (by_weight ih (eqb (g e.mark) 0) refl)
    by_slot ih false is = omega (arith, ih, ap (λ b. total (is_saw x) (cond b (e.mark ∷ about i (without_at i g es)) (about i (without_at i g es)))) is)

saw_more : (x i : ℕ) (m : Mark) (es : List SlotMark) → total (is_saw x) (about i es) ≤ total (is_saw x) (about i (at i m ∷ es))
saw_more x i m es = omega (arith, ap (total (is_saw x)) (about-here i m es))

saw_here : (x i : ℕ) (es : List SlotMark) → 0 < total (is_saw x) (about i (at i (Saw x) ∷ es))
saw_here x i es = omega (arith, ap (total (is_saw x)) (about-here i (Saw x) es), only-same x)

hold_more : (h i : ℕ) (m : Mark) (es : List SlotMark) → total (is_hold h) (about i es) ≤ total (is_hold h) (about i (at i m ∷ es))
hold_more h i m es = omega (arith, ap (total (is_hold h)) (about-here i m es))

-- ## A life is set failed

-- what a word is made of
word_odd : (w h : ℕ) → w - w % 2 ≡ h → w % 2 ≢ 0 → w ≡ h + 1
word_odd w h same odd = omega (arith, same, odd)

word_even : (w h : ℕ) → w - w % 2 ≡ h → w % 2 ≡ 0 → w + 1 ≡ h + 1
word_even w h same even = omega (arith, same, even)

not_zero : (n : ℕ) → eqb n 0 ≡ false → n ≢ 0
not_zero n is e = true≢false (sym (eq-eqb n 0 e) ∙ is)

-- the seat saw the life h of slot i failed
abbrev Saw_failed : ℕ → ℕ → View → Type 0
Saw_failed i h v = 0 < marks_of (is_saw (h + 1)) i v

module _ (p : Plan) (id code : ℕ) (next : Program) (n : ℕ) (then_ : (u : View) → Saw_failed (socket_id_slot id) (socket_id_version id) u → LastsFor p u next n) where
  abbrev own_slot : ℕ
  own_slot = socket_id_slot id

  abbrev own_life : ℕ
  own_life = socket_id_version id

  gives_back : (u : View) → Saw_failed own_slot own_life u → LastsFor p u (Do (OnSlot (SubRef own_slot)) (λ _. next)) (n + 1)
  gives_back u saw = (n, omega arith, λ found hand f. then_ (row p (OnSlot (SubRef own_slot)) found hand u) (kept found (eqb (vref_version found % 2) 1) (eqb (vref_nref found) 1)))
    where
      rest_is : (found : ℕ) (b : Bool) → 0 < total (is_saw (own_life + 1)) (about own_slot (without_at own_slot (cond b is_probe (is_hold (vref_version found - vref_version found % 2))) u.marks))
      rest_is found true = omega (arith, saw, saw_stays is_probe (λ w. refl) (own_life + 1) own_slot u.marks)
      rest_is found false = omega (arith, saw, saw_stays (is_hold (vref_version found - vref_version found % 2)) (λ w. refl) (own_life + 1) own_slot u.marks)

      kept : (found : ℕ) (b d : Bool) → 0 < total (is_saw (own_life + 1)) (about own_slot (cond b (cond d (at own_slot (Zero (vref_version found)) ∷ without_at own_slot (back own_slot found u) u.marks) (without_at own_slot (back own_slot found u) u.marks)) (without_at own_slot (back own_slot found u) u.marks)))
      kept found true true = let z = rest_is found (ltb 0 (marks_of is_probe own_slot u)) in omega (arith, z, saw_more (own_life + 1) own_slot (Zero (vref_version found)) (without_at own_slot (back own_slot found u) u.marks))
      kept found true false = rest_is found (ltb 0 (marks_of is_probe own_slot u))
      kept found false d = rest_is found (ltb 0 (marks_of is_probe own_slot u))

  saves_code : (u : View) → Saw_failed own_slot own_life u → LastsFor p u (Do (OnSlot (StoreCode own_slot own_life code)) (λ _. Do (OnSlot (SubRef own_slot)) (λ _. next))) (n + 2)
  saves_code u saw = (
    n + 1,
    omega arith,
    λ found hand f. gives_back (row p (OnSlot (StoreCode own_slot own_life code)) found hand u)
        (omega (arith, saw, saw_stays (is_coding own_life) (λ w. refl) (own_life + 1) own_slot u.marks, saw_more (own_life + 1) own_slot (Told own_life code) (without_at own_slot (is_coding own_life) u.marks), saw_more (own_life + 1) own_slot (Stored own_life code) (at own_slot (Told own_life code) ∷ without_at own_slot (is_coding own_life) u.marks))),
  )

  -- whoever holds the life sets it failed, and saw it failed then
  pub failed_lasts : (u : View) → 0 < marks_of (is_hold own_life) own_slot u → LastsFor p u (set_failed id code (λ _. next)) (n + 3)
  failed_lasts u holds = (n + 2, omega arith, λ found hand f. branch (vref_version found) (f own_life holds) (eqb (vref_version found % 2) 0) refl)
    where
      branch : (w : ℕ) → w - w % 2 ≡ own_life → (b : Bool) → eqb (w % 2) 0 ≡ b
          → LastsFor p (record u { marks = cond b (at own_slot (Hold w) ∷ at own_slot (Coding w) ∷ at own_slot (Failer w) ∷ at own_slot (Saw (w + 1)) ∷ u.marks) (at own_slot (Saw w) ∷ u.marks) }) (cond b (Do (OnSlot (StoreCode own_slot own_life code)) (λ _. Do (OnSlot (SubRef own_slot)) (λ _. next))) next) (n + 2)
      branch w same true is = let q : w + 1 ≡ own_life + 1 = word_even w own_life same (eqb-true (w % 2) 0 is) in let es : List SlotMark = at own_slot (Saw (w + 1)) ∷ u.marks in
          saves_code (record u { marks = at own_slot (Hold w) ∷ at own_slot (Coding w) ∷ at own_slot (Failer w) ∷ at own_slot (Saw (w + 1)) ∷ u.marks })
          (omega (
            arith,
            subst (λ x. 0 < total (is_saw x) (about own_slot es)) q (saw_here (w + 1) own_slot u.marks),
            saw_more (own_life + 1) own_slot (Failer w) es,
            saw_more (own_life + 1) own_slot (Coding w) (at own_slot (Failer w) ∷ es),
            saw_more (own_life + 1) own_slot (Hold w) (at own_slot (Coding w) ∷ at own_slot (Failer w) ∷ es),
          ))
      branch w same false is = let q : w ≡ own_life + 1 = word_odd w own_life same (not_zero (w % 2) is) in
          lasts_more p (record u { marks = at own_slot (Saw w) ∷ u.marks }) next n (n + 2) (omega arith)
          (then_ (record u { marks = at own_slot (Saw w) ∷ u.marks }) (subst (λ x. 0 < total (is_saw x) (about own_slot (at own_slot (Saw w) ∷ u.marks))) q (saw_here w own_slot u.marks)))

-- ## A message got its place

module _ (p : Plan) (after : Program) (m : ℕ) (follows : Lasting p after m) where
  -- the head of a loop
  heads_lasts : (u : View) (w : Writing) (n : ℕ) → loop_cost u w + m ≤ n → LastsFor p u (Write w after) n
  heads_lasts u w n le = (m, le, follows)

  failing_few : (b : Bool) → failing_cost b ≤ 20
  failing_few true = omega arith
  failing_few false = omega arith

  waiting_few : (b : Bool) → waiting_cost b ≤ 25
  waiting_few true = omega arith
  waiting_few false = omega arith

  -- the message that follows is taken, and stands for whoever writes it
  takes_next : (h : Holder) (now q : ℕ) → Lasting p (TakeMessage q (λ heading bytes. Write (Puts h now heading bytes 0 false) after)) (1 + m)
  takes_next h now q u heading bytes some_ = (
    weight (length bytes) + m,
    omega arith,
    heads_lasts (took_message heading bytes u) (Puts h now heading bytes 0 false) (weight (length bytes) + m) (omega (arith, failing_few (saw_failed (took_message heading bytes u) h))),
  )

  freed_lasts : (now : ℕ) (next : Program) (n : ℕ) → Lasting p next n → Lasting p (freed now next) (1 + n)
  freed_lasts now next n l = either_lasts p next (Do (OnChain (FreeRequest (ticket_request now) (ticket_generation now))) (λ _. next)) (1 + n) (eqb (ticket_generation now) LAST_GENERATION) (lasting_more p next n (1 + n) (omega arith) l)
      (λ u. (n, omega arith, λ found hand f. l (row p (OnChain (FreeRequest (ticket_request now) (ticket_generation now))) found hand u)))

  -- where what is told costs so much
  telling_lasts : (h : Holder) (now : ℕ) (tells : Program → Program) (t : ℕ) → ((x : Program) (n : ℕ) → Lasting p x n → Lasting p (tells x) (t + n)) → Lasting p (passed_telling h now tells after) (5 + t + m)
  telling_lasts h now tells t told = let next_of : ℕ → Program = λ next. TakeMessage (ticket_request next) (λ heading bytes. Write (Puts h next heading bytes 0 false) after) in
      either_lasts p (freed now (tells (Write (Empties h) after))) (Do (OnChain (ReadNext (ticket_request now))) (λ next. freed now (tells (next_of next)))) (5 + t + m) (eqb now h.last)
      (lasting_more p (freed now (tells (Write (Empties h) after))) (1 + (t + (4 + m))) (5 + t + m) (omega arith) (freed_lasts now (tells (Write (Empties h) after)) (t + (4 + m)) (told (Write (Empties h) after) (4 + m) (λ u. heads_lasts u (Empties h) (4 + m) (omega arith)))))
      (λ u. (
        4 + t + m,
        omega arith,
        λ next hand f. lasting_more p (freed now (tells (next_of next))) (1 + (t + (1 + m))) (4 + t + m) (omega arith) (freed_lasts now (tells (next_of next)) (t + (1 + m)) (told (next_of next) (1 + m) (takes_next h next (ticket_request next)))) (row p (OnChain (ReadNext (ticket_request now))) next hand u),
      ))

  passed_lasts : (h : Holder) (now : ℕ) → Lasting p (passed h now after) (5 + m)
  passed_lasts h now = lasting_more p (passed h now after) (5 + 0 + m) (5 + m) (omega arith) (telling_lasts h now (λ x. x) 0 (λ x n l. lasting_more p x n (0 + n) (omega arith) l))

  placed_lasts : (h : Holder) (now : ℕ) (heading : Heading) → Lasting p (placed h now heading after) (6 + m)
  placed_lasts h now heading u = (5 + m, omega arith, λ found hand f. passed_lasts (one_more h) now (row p (OnPlace (StorePlace heading.label.place h.link h.places)) found hand u))

  -- a message is dropped, and its call is told
  tell_lasts : (heading : Heading) (code : ℕ) (x : Program) (n : ℕ) → Lasting p x n → Lasting p (tell_drop heading code x) (POST + n)
  tell_lasts heading code x n l = let c : ℕ = cond (eqb code 0) 1009 code in
      either_lasts p x (post heading.owner c heading.label.attempt x) (POST + n) (eqb heading.owner 0) (lasting_more p x n (POST + n) (omega arith) l) (λ u. post_lasts p u heading.owner c heading.label.attempt x n (POST + n) (l u) (omega arith))

  dropped_lasts : (h : Holder) (now : ℕ) (heading : Heading) → Lasting p (dropped h now heading after) (7 + POST + m)
  dropped_lasts h now heading u = (
    6 + POST + m,
    omega arith,
    λ code hand f. (
      5 + POST + m,
      omega arith,
      λ found hand' g. telling_lasts (one_more h) now (tell_drop heading code) POST (tell_lasts heading code) (row p (OnPlace (DropPlace heading.label.place h.link h.places)) found hand' (row p (OnSlot (LoadCode (socket_id_slot h.id) (socket_id_version h.id))) code hand u)),
    ),
  )

  -- ## The first look

  module _ (h : Holder) (now : ℕ) (heading : Heading) (bytes : List ℕ) where
    -- the head of the loop, with the whole message in hand
    whole_lasts : Lasting p (Write (Puts h now heading bytes 0 false) after) (weight (length bytes) + m)
    whole_lasts u = heads_lasts u (Puts h now heading bytes 0 false) (weight (length bytes) + m) (omega (arith, failing_few (saw_failed u h)))

    first_answers : (answer : Put) → Lasting p (put_answered h now heading bytes 0 after answer) (weight (length bytes) + 3 + m)
    first_answers (puts.Took k) = either_lasts p (placed h now heading after) (Write (Puts h now heading (drop k bytes) (0 + k) false) after) (weight (length bytes) + 3 + m) (leb (length bytes) k)
        (lasting_more p (placed h now heading after) (6 + m) (weight (length bytes) + 3 + m) (omega arith) (placed_lasts h now heading))
        (λ u. heads_lasts u (Puts h now heading (drop k bytes) (0 + k) false) (weight (length bytes) + 3 + m) (omega (arith, length-drop k bytes, failing_few (saw_failed u h))))
    first_answers puts.Again = λ u. heads_lasts u (Waits h now heading bytes 0) (weight (length bytes) + 3 + m) (omega (arith, waiting_few (saw_failed u h)))
    first_answers puts.Failed = lasting_more p (set_failed h.id 1009 (λ _. Write (Puts h now heading bytes 0 false) after)) (3 + (weight (length bytes) + m)) (weight (length bytes) + 3 + m) (omega arith)
        (set_failed_lasts p h.id 1009 (λ _. Write (Puts h now heading bytes 0 false) after) (weight (length bytes) + m) (λ _. whole_lasts))

    first_put_lasts : Lasting p (first_put h now heading bytes after) (weight (length bytes) + 5 + m)
    first_put_lasts = let n : ℕ = weight (length bytes) + 4 + m in
        let puts_first : Program = PutBytes h.link false (part heading.parts bytes 0) (put_answered h now heading bytes 0 after) in
        let looks_again : Program = Write (Puts h now heading bytes 0 false) after in
        does p (OnSlot (LookWord h.id)) (λ found. cond (vref_version found % 2 == 0) puts_first looks_again) n (weight (length bytes) + 5 + m) (omega arith)
        (λ found. either_lasts p puts_first looks_again n (vref_version found % 2 == 0)
        (λ u answer fits. (weight (length bytes) + 3 + m, omega arith, first_answers answer (took_bytes answer u)))
        (lasting_more p looks_again (weight (length bytes) + m) n (omega arith) whole_lasts))

  -- who found an idle head takes the message, looks and goes on
  pub takes_first : (h : Holder) (now q : ℕ) → Lasting p (TakeMessage q (λ heading bytes. first_put h now heading bytes after)) (6 + m)
  takes_first h now q u heading bytes some_ = (weight (length bytes) + 5 + m, omega arith, first_put_lasts h now heading bytes (took_message heading bytes u))

  -- ## One round

  module _ (h : Holder) (now : ℕ) (heading : Heading) (left : List ℕ) (taken : ℕ) where
    abbrev its_slot : ℕ
    its_slot = socket_id_slot h.id

    abbrev its_life : ℕ
    its_life = socket_id_version h.id

    saw_is : (u : View) → Saw_failed its_slot its_life u → saw_failed u h ≡ true
    saw_is u saw = lt-ltb 0 (marks_of (is_saw (its_life + 1)) its_slot u) saw

    -- the link failed
    refused_lasts : (u : View) → 0 < marks_of (is_hold its_life) its_slot u → LastsFor p u (set_failed h.id 1009 (λ _. Write (Puts h now heading left taken false) after)) (14 * length left + 23 + POST + m)
    refused_lasts u holds = lasts_more p u (set_failed h.id 1009 (λ _. Write (Puts h now heading left taken false) after)) (14 * length left + 20 + POST + m + 3) (14 * length left + 23 + POST + m) (omega arith)
        (failed_lasts p h.id 1009 (Write (Puts h now heading left taken false) after) (14 * length left + 20 + POST + m)
        (λ w saw. heads_lasts w (Puts h now heading left taken false) (14 * length left + 20 + POST + m) (omega (arith, ap failing_cost (saw_is w saw)))) u holds)

    -- a put is answered, where at most so much was left
    answers : (u : View) → 0 < marks_of (is_hold its_life) its_slot u → (asked : Bool) (bytes : List ℕ) (answer : Put) → FitsPut asked bytes answer → (n : ℕ) → n ≡ 14 * length left + asking_cost asked + 26 + POST + m
        → LastsFor p (took_bytes answer u) (put_answered h now heading left taken after answer) n
    answers u holds asked bytes (puts.Took k) fits n is = branch (leb (length left) k) refl
      where
        branch : (b : Bool) → leb (length left) k ≡ b → LastsFor p (took_bytes (puts.Took k) u) (cond b (placed h now heading after) (Write (Puts h now heading (drop k left) (taken + k) false) after)) n
        branch true all = lasting_more p (placed h now heading after) (6 + m) n (omega (arith, is)) (placed_lasts h now heading) (took_bytes (puts.Took k) u)
        branch false all = heads_lasts (took_bytes (puts.Took k) u) (Puts h now heading (drop k left) (taken + k) false) n
            (omega (arith, is, fits.0, leb-false (length left) k all, length-drop k left, failing_few (saw_failed (took_bytes (puts.Took k) u) h)))
    answers u holds asked bytes puts.Again fits n is = heads_lasts u (Waits h now heading left taken) n (omega (arith, is, ap asking_cost fits, waiting_few (saw_failed u h)))
    answers u holds asked bytes puts.Failed fits n is = lasts_more p u (set_failed h.id 1009 (λ _. Write (Puts h now heading left taken false) after)) (14 * length left + 23 + POST + m) n (omega (arith, is)) (refused_lasts u holds)

    look_holds : (v : View) (found : ℕ) → 0 < marks_of (is_hold its_life) its_slot v → 0 < marks_of (is_hold its_life) its_slot (by_right v.rights (looked_clean its_slot found v) (looked its_slot found v))
    look_holds v found holds = let more : 0 < marks_of (is_hold its_life) its_slot (looked its_slot found v) = omega (arith, holds, hold_more its_life its_slot (Saw (vref_version found)) v.marks) in
        right_way (λ (w : View). 0 < marks_of (is_hold its_life) its_slot w) v.rights (looked_clean its_slot found v) (looked its_slot found v) more
        (λ r. either_way (eqb (vref_version found % 2) 0) (with_right (looked its_slot found v) (record r { clean = true })) (looked its_slot found v) (λ (w : View). 0 < marks_of (is_hold its_life) its_slot w) more more)

    -- whoever saw the life failed finds it so
    saw_odd : (v : View) (found : ℕ) → IsOfHeld v its_slot found × FindsFailed v its_slot found → 0 < marks_of (is_hold its_life) its_slot v → saw_failed v h ≡ true → eqb (vref_version found % 2) 0 ≡ true → ⊥
    saw_odd v found f holds saw even = omega (arith, f.0 its_life holds, f.1 its_life holds (ltb-true 0 (marks_of (is_saw (its_life + 1)) its_slot v) saw), eqb-true (vref_version found % 2) 0 even)

    puts_round : (v : View) (asked : Bool) → 0 < marks_of (is_hold its_life) its_slot v → (n : ℕ) → loop_cost v (Puts h now heading left taken asked) + m ≤ n → LastsFor p v (block (Puts h now heading left taken asked) after) n
    puts_round v asked holds n le = (n - 1, omega (arith, le), λ found hand f. branch (saw_failed v h) refl found f (eqb (vref_version found % 2) 0) refl)
      where
        branch : (saw : Bool) → saw_failed v h ≡ saw → (found : ℕ) → IsOfHeld v its_slot found × FindsFailed v its_slot found → (b : Bool) → eqb (vref_version found % 2) 0 ≡ b → LastsFor p (by_right v.rights (looked_clean its_slot found v) (looked its_slot found v))
            (cond b (PutBytes h.link asked (part heading.parts left taken) (put_answered h now heading left taken after)) (dropped h now heading after)) (n - 1)
        branch saw saw_is found f false odd = lasting_more p (dropped h now heading after) (7 + POST + m) (n - 1) (omega (arith, le)) (dropped_lasts h now heading) (by_right v.rights (looked_clean its_slot found v) (looked its_slot found v))
        branch true saw_is found f true even = absurd (saw_odd v found f holds saw_is even)
        branch false saw_is found f true even = λ answer fits. (
          14 * length left + asking_cost asked + 26 + POST + m,
          omega (arith, le, ap failing_cost saw_is),
          answers (by_right v.rights (looked_clean its_slot found v) (looked its_slot found v)) (look_holds v found holds) asked (part heading.parts left taken) answer fits (14 * length left + asking_cost asked + 26 + POST + m) refl,
        )

    waits_round : (v : View) → 0 < marks_of (is_hold its_life) its_slot v → (n : ℕ) → loop_cost v (Waits h now heading left taken) + m ≤ n → LastsFor p v (block (Waits h now heading left taken) after) n
    waits_round v holds n le asks.Now always_ready = (n - 1, omega (arith, le), heads_lasts v (Puts h now heading left taken true) (n - 1) (now_few (saw_failed v h) refl))
      where
        now_few : (b : Bool) → saw_failed v h ≡ b → 14 * length left + 0 + failing_cost (saw_failed v h) + 8 + POST + m ≤ n - 1
        now_few true is = omega (arith, le, ap failing_cost is, ap waiting_cost is)
        now_few false is = omega (arith, le, ap failing_cost is, ap waiting_cost is)
    waits_round v holds n le asks.NotYet always_ready = absurd (always_ready refl)
    waits_round v holds n le asks.Failed always_ready = (14 * length left + 23 + POST + m, few (saw_failed v h) refl, refused_lasts v holds)
      where
        few : (b : Bool) → saw_failed v h ≡ b → 14 * length left + 23 + POST + m + 1 ≤ n
        few true is = omega (arith, le, ap waiting_cost is)
        few false is = omega (arith, le, ap waiting_cost is)

  empties_round : (h : Holder) (v : View) (n : ℕ) → 4 + m ≤ n → LastsFor p v (block (Empties h) after) n
  empties_round h v n le = (
    3 + m,
    omega (arith, le),
    (
      2 + m,
      omega arith,
      λ found hand f. either_lasts p after (TakeHome h.link (λ places. Write (Reversing (record h { places = places }) found found 0) after)) (2 + m) (eqb found h.last) (lasting_more p after m (2 + m) (omega arith) follows)
          (λ u. (1 + m, omega arith, λ places. heads_lasts (link_away u) (Reversing (record h { places = places }) found found 0) (1 + m) (omega arith)))
          (row p (OnChain (EmptyHead (socket_id_slot h.id) h.last)) found hand (link_home_again v)),
    ),
  )

  -- a walk that found the next word of its entry, and turns it: its steps are counted by what is left of it
  turned_lasts : (h : Holder) (top place successor found n : ℕ) → 1 + m ≤ n → Lasting p (Do (OnChain (ReverseNext (ticket_request place) successor)) (λ _. cond (eqb found h.last)
      (TakeMessage (ticket_request place) (λ heading bytes. Write (Puts (record h { last = top }) place heading bytes 0 false) after)) (Write (Reversing h top found place) after))) n
  turned_lasts h top place successor found n le v = (
    n,
    omega arith,
    λ word hand f. either_lasts p (TakeMessage (ticket_request place) (λ heading bytes. Write (Puts (record h { last = top }) place heading bytes 0 false) after)) (Write (Reversing h top found place) after) n (eqb found h.last)
        (lasting_more p (TakeMessage (ticket_request place) (λ heading bytes. Write (Puts (record h { last = top }) place heading bytes 0 false) after)) (1 + m) n le (takes_next (record h { last = top }) place (ticket_request place)))
        (λ u. heads_lasts u (Reversing h top found place) n le)
        (row p (OnChain (ReverseNext (ticket_request place) successor)) word hand v),
  )

-- a program that is at the head of a walk
abbrev pub IsWalk : Program → Type 0
IsWalk (Write (Reversing h top place successor) then_) = Unit {0}
IsWalk other = ⊥

-- a round from any other head takes one step of those left
pub lasts_round : (p : Plan) (v : View) (w : Writing) (after : Program) (n : ℕ) → At p v w → ¬ IsWalk (Write w after) → LastsFor p v (Write w after) n → LastsFor p v (block w after) n
lasts_round p v (Puts h now heading left taken asked) after n a other l = puts_round p after l.0 l.2 h now heading left taken v asked a.1.holds.held n l.1
lasts_round p v (Waits h now heading left taken) after n a other l = waits_round p after l.0 l.2 h now heading left taken v a.1.holds.held n l.1
lasts_round p v (Empties h) after n a other l = empties_round p after l.0 l.2 h v n l.1
lasts_round p v (Reversing h top place successor) after n a other l = absurd (other tt)

-- a walk goes on behind the next word of its entry, where that was found
pub lasts_walk : (p : Plan) (v : View) (h : Holder) (top place successor found : ℕ) (then_ : Program) (n : ℕ) → LastsFor p v (Write (Reversing h top place successor) then_) n
    → Lasting p (Do (OnChain (ReverseNext (ticket_request place) successor)) (λ _. cond (eqb found h.last) (TakeMessage (ticket_request place) (λ heading bytes. Write (Puts (record h { last = top }) place heading bytes 0 false) then_)) (Write (Reversing h top found place) then_))) n
lasts_walk p v h top place successor found then_ n l = turned_lasts p then_ l.0 l.2 h top place successor found n l.1
