-- From the head of a loop one round goes on, whatever it finds: each of its steps is allowed, and it comes to the head of a loop again, or behind them.
use Rattle.std.proofs.Common.{◌≡◌, ◌≢◌, ℕ, zero, suc, ◌+◌, ◌-◌, ◌*◌, ◌%◌, ◌<◌, ◌≤◌, ◌⊎◌, Bool, true, false, not, ◌&&◌, List, [], ◌∷◌, ◌++◌, length, take, drop, min, refl, sym, ap, ◌∙◌, subst, inl, inr, arith, cond, eqb, leb, ltb, ltb-true, eq-eqb, ne_eqb, eqb-true, le-ltb, leb-true, leb-false}
use Rattle.std.proofs.lemmas.Bool.{cond-false, true≢false}
use Rattle.std.proofs.lemmas.List.{append_assoc, append-nil, take-append-drop, length-drop, length-take, drop-drop}
use Rattle.std.specs.List.{filter}
use mathlib.Core.List.{cons-ne-nil}
use mathlib.Core.Logic.{dite}
use native.Mathlib.Decide.{ℕ_discrete}
use lib.ListN.{get_elem?}
use Rattle.sock_words.specs.declared.plain.Plan.{Plan}
use Rattle.sock_words.specs.PackedWords.{socket_id_version, socket_id_slot, vref_version, vref_nref, ticket_request, ticket_generation, UNCONNECTED}
use Rattle.seat_programs.specs.sock_io.specs.declared.link.Put.{Put}
use Rattle.seat_programs.specs.sock_io.specs.declared.link.Put.TheVariants as puts
use Rattle.seat_programs.specs.sock_io.specs.declared.link.Ready.{Ready}
use Rattle.seat_programs.specs.sock_io.specs.declared.link.Ready.TheVariants as asks
use Rattle.sock_model.specs.declared.chain.Heading.{Heading}
use Rattle.sock_model.specs.declared.chain.Right.{Right}
use Rattle.sock_model.specs.declared.chain.Stage.{Stage}
use Rattle.sock_model.specs.declared.chain.Stage.TheVariants as stages
use Rattle.sock_model.specs.declared.marks.Mark.{Mark}
use Rattle.sock_model.specs.declared.marks.Mark.TheVariants.{Hold, Coding, Saw, Failer, Stored, Told, Met, Zero}
use Rattle.sock_model.specs.declared.marks.SlotMark.{SlotMark}
use Rattle.sock_model.specs.declared.view.View.{View}
use Rattle.sock_model.specs.MarkWeights.{is_ref, is_probe, is_hold, is_any_coding, is_coding, is_met, is_saw}
use Rattle.sock_model.specs.Marks.{about, at, without_at}
use Rattle.sock_model.specs.SlotRows.{marks_of, back, subbed, looked, told_code}
use Rattle.sock_model.specs.ChainRows.{with_right, without_right, taken_right, placed_right, dropped_right, put_right}
use Rattle.sock_model.specs.ChainStepConditions.{HasRight}
use Rattle.sock_model.specs.LinksInSlots.{HoldsLink}
use Rattle.seat_programs.specs.Ticks.{FitsPut}
use Rattle.sock_steps.specs.slot_steps.proofs.SlotWeightSums.{total_mono, about-here}
use Rattle.sock_steps.specs.slot_steps.proofs.RuleNumbers.{only-same, only-else}
use Rattle.sock_steps.specs.slot_steps.proofs.ReferenceStepsKeepSlot.{hold_ref}
use Rattle.seat_programs.specs.TableSteps.{OnSlot, OnChain, OnPlace, StoreCode, SubRef, ReadNext, FreeRequest, DropPlace, EmptyHead, ReverseNext}
use Rattle.seat_programs.specs.BufferParts.{room_of_part}
use Rattle.seat_programs.specs.Writings.{Holder, Writing, Puts, Waits, Empties, Reversing}
use Rattle.seat_programs.specs.Programs.{Program, Do, TakeMessage, TakeHome, PutBytes, Write, LAST_GENERATION, set_failed}
use Rattle.program_steps.proofs.AsideStepsPass.{tell_goes}
use Rattle.seat_programs.specs.SendAndWritePrograms.{freed, one_more, passed, passed_telling, tell_drop, placed, dropped, put_answered, ready_answered, block, first_put}
use Rattle.seat_programs.specs.StepsOfSlots.{even_version}
use Rattle.seat_programs.specs.StepViews.{by_right, settled, settled_stage}
use Rattle.seat_programs.specs.StepsOfChain.{read_next, turned_next, emptied, freed_stage}
use Rattle.seat_programs.specs.StepsOfPlaces.{placed_next, dropped_next}
use Rattle.seat_programs.specs.StepsOfSlots.{looked_clean}
use Rattle.seat_programs.specs.StepsOfLinks.{took_bytes}
use Rattle.program_steps.specs.Writes.{IsHolder, HasMessage, IsBetween, IsNote, AreNotes, behind}
use Rattle.program_steps.specs.ProgramGoesOn.{GoesOn}
use Rattle.sock_words.specs.Totals.{total}

-- ## Marks of one slot

pub about_top : (f : Mark → ℕ) (i : ℕ) (m : Mark) (es : List SlotMark) → total f (about i (at i m ∷ es)) ≡ f m + total f (about i es)
about_top f i m es = ap (total f) (about-here i m es)

-- a mark without the weight stays, and the first with it goes
without_past : (i : ℕ) (g : Mark → ℕ) (m : Mark) (es : List SlotMark) → g m ≡ 0 → without_at i g (at i m ∷ es) ≡ at i m ∷ without_at i g es
without_past i g m es z = ap (λ b. cond b (cond (eqb (g m) 0) (at i m ∷ without_at i g es) es) (at i m ∷ without_at i g es)) (eq-eqb i i refl) ∙ ap (λ b. cond b (at i m ∷ without_at i g es) es) (eq-eqb (g m) 0 z)

without_first : (i : ℕ) (g : Mark → ℕ) (m : Mark) (es : List SlotMark) → 0 < g m → without_at i g (at i m ∷ es) ≡ es
without_first i g m es some_ = ap (λ b. cond b (cond (eqb (g m) 0) (at i m ∷ without_at i g es) es) (at i m ∷ without_at i g es)) (eq-eqb i i refl)
    ∙ ap (λ b. cond b (at i m ∷ without_at i g es) es) (ne_eqb (g m) 0 (λ e. absurd (omega (arith, some_, e))))

-- ## Notes

-- what has the weight 0 for each note of a writer
abbrev pub OfNoNote : (Mark → ℕ) → Type 0
OfNoNote f = (m : Mark) → IsNote m → f m ≡ 0

no_note : (f : Mark → ℕ) → ((w : ℕ) → f (Saw w) ≡ 0) → ((h : ℕ) → f (Failer h) ≡ 0) → ((h c : ℕ) → f (Stored h c) ≡ 0) → ((h c : ℕ) → f (Told h c) ≡ 0) → ((h k : ℕ) → f (Met h k) ≡ 0) → OfNoNote f
no_note f saw failer stored told met (Saw w) n = saw w
no_note f saw failer stored told met (Failer h) n = failer h
no_note f saw failer stored told met (Stored h c) n = stored h c
no_note f saw failer stored told met (Told h c) n = told h c
no_note f saw failer stored told met (Met h k) n = met h k
no_note f saw failer stored told met _ n = absurd n

no_ref : OfNoNote is_ref
no_ref = no_note is_ref (λ w. refl) (λ h. refl) (λ h c. refl) (λ h c. refl) (λ h k. refl)

no_probe : OfNoNote is_probe
no_probe = no_note is_probe (λ w. refl) (λ h. refl) (λ h c. refl) (λ h c. refl) (λ h k. refl)

no_coding : OfNoNote is_any_coding
no_coding = no_note is_any_coding (λ w. refl) (λ h. refl) (λ h c. refl) (λ h c. refl) (λ h k. refl)

about_append : (i : ℕ) (f : Mark → ℕ) (es fs : List SlotMark) → total f (about i (es ++ fs)) ≡ total f (about i es) + total f (about i fs)
about_append i f [] fs = omega arith
about_append i f (e ∷ es) fs = by_slot (about_append i f es fs) (eqb e.slot i)
  where
    by_slot : total f (about i (es ++ fs)) ≡ total f (about i es) + total f (about i fs) → (b : Bool)
        → total f (cond b (e.mark ∷ about i (es ++ fs)) (about i (es ++ fs))) ≡ total f (cond b (e.mark ∷ about i es) (about i es)) + total f (about i fs)
    by_slot ih true = omega (arith, ih)
    by_slot ih false = ih

notes_none : (i : ℕ) (f : Mark → ℕ) → OfNoNote f → (notes : List SlotMark) → AreNotes notes → total f (about i notes) ≡ 0
notes_none i f none_ [] are = refl
notes_none i f none_ (e ∷ es) are = by_slot (notes_none i f none_ es are.1) (eqb e.slot i)
  where
    by_slot : total f (about i es) ≡ 0 → (b : Bool) → total f (cond b (e.mark ∷ about i es) (about i es)) ≡ 0
    by_slot ih true = omega (arith, none_ e.mark are.0, ih)
    by_slot ih false = ih

are_both : (es fs : List SlotMark) → AreNotes es → AreNotes fs → AreNotes (es ++ fs)
are_both [] fs a b = b
are_both (e ∷ es) fs a b = (a.0, are_both es fs a.1 b)

-- the seat with notes more
abbrev pub with_notes : List SlotMark → View → View
with_notes notes v = record v { marks = notes ++ v.marks }

-- ## Who writes a link

-- the seat holds the life of this id and has the right to write its link, wherever the link is
pub record Keeps (p : Plan) (v : View) (id k : ℕ) (r : Right) : Type 0 where
  pub one : v.rights ≡ r ∷ []
  pub claims : v.claims ≡ []
  pub loose : v.loose ≡ []
  pub hands : v.hands ≡ []
  pub link : r.link ≡ k
  pub holds : HoldsLink p v (socket_id_slot id) (socket_id_version id) k
  pub room : marks_of is_ref (socket_id_slot id) v < 65540
  pub no_probe : marks_of is_probe (socket_id_slot id) v ≡ 0
  pub no_coding : marks_of is_any_coding (socket_id_slot id) v ≡ 0

others_none : (r s : Right) → r.link ≡ s.link → filter (λ (x : Right). not (eqb x.link s.link)) (r ∷ []) ≡ []
others_none r s e = ap (λ b. cond (not b) (r ∷ []) []) (eq-eqb r.link s.link e)

module _ {p : Plan} {v : View} where
  pub keeps : {h : Holder} {r : Right} → IsHolder p v h r → Keeps p v h.id h.link r
  keeps a = record { one = a.one; claims = a.claims; loose = a.loose; hands = a.hands; link = a.link; holds = a.holds; room = a.room; no_probe = a.no_probe; no_coding = a.no_coding }

  pub holder : (h : Holder) {r : Right} → Keeps p v h.id h.link r → r.last ≡ h.last → r.places ≡ h.places → r.at_home ≡ false → IsHolder p v h r
  holder h a last places away = record { one = a.one; claims = a.claims; loose = a.loose; hands = a.hands; link = a.link; last = last; places = places; away = away; holds = a.holds; room = a.room; no_probe = a.no_probe; no_coding = a.no_coding }

  -- with notes more it still does
  pub noted : (new : List SlotMark) {id k : ℕ} {r : Right} → AreNotes new → Keeps p v id k r → Keeps p (with_notes new v) id k r
  noted new {id} {k} {r} are a = let i : ℕ = socket_id_slot id in let h : ℕ = socket_id_version id in let b = a.holds in record {
    one = a.one;
    claims = a.claims;
    loose = a.loose;
    hands = a.hands;
    link = a.link;
    holds = record { inside = b.inside; held = omega (arith, b.held, about_append i (is_hold h) new v.marks); met = omega (arith, b.met, about_append i (is_met h k) new v.marks) };
    room = omega (arith, a.room, about_append i is_ref new v.marks, notes_none i is_ref no_ref new are);
    no_probe = omega (arith, a.no_probe, about_append i is_probe new v.marks, notes_none i is_probe no_probe new are);
    no_coding = omega (arith, a.no_coding, about_append i is_any_coding new v.marks, notes_none i is_any_coding no_coding new are);
  }

  -- with its right changed too
  pub changed : {id k : ℕ} {r : Right} (s : Right) → Keeps p v id k r → s.link ≡ k → Keeps p (with_right v s) id k s
  changed {id} {k} {r} s a same = record {
    one = ap (λ (rs : List Right). s ∷ filter (λ (x : Right). not (eqb x.link s.link)) rs) a.one ∙ ap (λ (rs : List Right). s ∷ rs) (others_none r s (a.link ∙ sym same));
    claims = a.claims;
    loose = a.loose;
    hands = a.hands;
    link = same;
    holds = record { inside = a.holds.inside; held = a.holds.held; met = a.holds.met };
    room = a.room;
    no_probe = a.no_probe;
    no_coding = a.no_coding;
  }

-- ## Behind the loops

-- what follows the loops goes on behind each
abbrev pub Follows : Plan → View → Program → Type 0
Follows p v after = (notes : List SlotMark) → AreNotes notes → GoesOn p (behind notes v) after

pub follows_noted : (p : Plan) (v : View) (after : Program) (new : List SlotMark) → AreNotes new → Follows p v after → Follows p (with_notes new v) after
follows_noted p v after new are goes notes also = subst (λ (ms : List SlotMark). GoesOn p (record v { marks = ms; rights = [] }) after) (append_assoc notes new v.marks) (goes (notes ++ new) (are_both notes new also are))

-- ## The life is set failed

module _ (p : Plan) (v : View) (id k c : ℕ) (r : Right) (a : Keeps p v id k r) (some_code : c ≢ 0) (next : Program)
    (goes : (new : List SlotMark) → AreNotes new → GoesOn p (with_notes new v) next) where
  abbrev i : ℕ
  i = socket_id_slot id

  abbrev h : ℕ
  h = socket_id_version id

  -- the notes that stay, behind the reference and the code
  abbrev failer : List SlotMark
  failer = at i (Failer h) ∷ at i (Saw (h + 1)) ∷ v.marks

  abbrev stored : List SlotMark
  stored = at i (Stored h c) ∷ at i (Told h c) ∷ at i (Hold h) ∷ at i (Failer h) ∷ at i (Saw (h + 1)) ∷ v.marks

  stored_weighs : (f : Mark → ℕ) → total f (about i stored) ≡ f (Stored h c) + (f (Told h c) + (f (Hold h) + (f (Failer h) + (f (Saw (h + 1)) + marks_of f i v))))
  stored_weighs f = omega (
    arith,
    about_top f i (Stored h c) (at i (Told h c) ∷ at i (Hold h) ∷ failer),
    about_top f i (Told h c) (at i (Hold h) ∷ failer),
    about_top f i (Hold h) failer,
    about_top f i (Failer h) (at i (Saw (h + 1)) ∷ v.marks),
    about_top f i (Saw (h + 1)) v.marks,
  )

  stored_left : without_at i (is_hold h) stored ≡ at i (Stored h c) ∷ at i (Told h c) ∷ failer
  stored_left = without_past i (is_hold h) (Stored h c) (at i (Told h c) ∷ at i (Hold h) ∷ failer) refl
      ∙ ap (λ (es : List SlotMark). at i (Stored h c) ∷ es) (without_past i (is_hold h) (Told h c) (at i (Hold h) ∷ failer) refl
      ∙ ap (λ (es : List SlotMark). at i (Told h c) ∷ es) (without_first i (is_hold h) (Hold h) failer (omega (arith, only-same h))))

  -- no exchange is left behind it, since the seat has a reference still
  stays_referred : (w n : ℕ) (es : List SlotMark) → 1 < n → cond (eqb (w % 2) 1) (cond (eqb n 1) (at i (Zero w) ∷ es) es) es ≡ es
  stays_referred w n es many = ap (λ b. cond (eqb (w % 2) 1) (cond b (at i (Zero w) ∷ es) es) es) (ne_eqb n 1 (λ e. absurd (omega (arith, e, many)))) ∙ both (eqb (w % 2) 1)
    where
      both : (b : Bool) → cond b es es ≡ es
      both true = refl
      both false = refl

  gives_back : ((g : ℕ) → 0 < marks_of (is_hold g) i v → g ≡ h) → GoesOn p (record v { marks = stored }) (Do (OnSlot (SubRef i)) (λ _. next))
  gives_back one = let u : View = record v { marks = stored } in let refs = stored_weighs is_ref in let held = a.holds.held in (
    (a.holds.inside, omega (arith, refs), omega (arith, stored_weighs is_any_coding, a.no_coding), λ x s g has holds met. inr (twice g holds)),
    λ found hand f. let own = f.0 in
        let here : 0 < marks_of (is_hold h) i u = omega (arith, stored_weighs (is_hold h), only-same h) in
        let by : back i found u ≡ is_hold h = cond-false (ltb 0 (marks_of is_probe i u)) is_probe (is_hold (vref_version found - vref_version found % 2)) (le-ltb 0 (marks_of is_probe i u) (omega (arith, stored_weighs is_probe, a.no_probe)))
        ∙ ap is_hold (f.1 h here) in
        let many : 1 < vref_nref found = omega (arith, own, refs, held, holds_refs) in
        subst (λ (g : Mark → ℕ). GoesOn p (subbed i found g u) next) (sym by)
        (subst (λ (es : List SlotMark). GoesOn p (record v { marks = cond (eqb (vref_version found % 2) 1) (cond (eqb (vref_nref found) 1) (at i (Zero (vref_version found)) ∷ es) es) es }) next) (sym stored_left)
        (subst (λ (es : List SlotMark). GoesOn p (record v { marks = es }) next) (sym (stays_referred (vref_version found) (vref_nref found) (at i (Stored h c) ∷ at i (Told h c) ∷ failer) many))
        (goes (at i (Stored h c) ∷ at i (Told h c) ∷ at i (Failer h) ∷ at i (Saw (h + 1)) ∷ []) (tt, (tt, (tt, (tt, tt))))))),
  )
    where
      holds_refs : marks_of (is_hold h) i v ≤ marks_of is_ref i v
      holds_refs = total_mono (is_hold h) is_ref (hold_ref h) (about i v.marks)

      twice : (g : ℕ) → 0 < marks_of (is_hold g) i (record v { marks = stored }) → 1 < marks_of (is_hold g) i (record v { marks = stored })
      twice g holds = dite (ℕ_discrete h g) (λ e. subst (λ g. 1 < marks_of (is_hold g) i (record v { marks = stored })) e (omega (arith, stored_weighs (is_hold h), only-same h, a.holds.held)))
          (λ n. absurd (n (sym (one g (omega (arith, holds, stored_weighs (is_hold g), only-else g h n))))))

  saves_code : ((g : ℕ) → 0 < marks_of (is_hold g) i v → g ≡ h)
      → GoesOn p (record v { marks = at i (Hold h) ∷ at i (Coding h) ∷ failer }) (Do (OnSlot (StoreCode i h c)) (λ _. Do (OnSlot (SubRef i)) (λ _. next)))
  saves_code one = (
    (a.holds.inside, omega (arith, about_top (is_coding h) i (Hold h) (at i (Coding h) ∷ failer), about_top (is_coding h) i (Coding h) failer, only-same h), some_code),
    λ found hand f. subst (λ (es : List SlotMark). GoesOn p (record v { marks = at i (Stored h c) ∷ at i (Told h c) ∷ es }) (Do (OnSlot (SubRef i)) (λ _. next)))
        (sym (without_past i (is_coding h) (Hold h) (at i (Coding h) ∷ failer) refl ∙ ap (λ (es : List SlotMark). at i (Hold h) ∷ es) (without_first i (is_coding h) (Coding h) failer (omega (arith, only-same h)))))
        (gives_back one),
  )

  fails_branch : (b : Bool) (w : ℕ) → (b ≡ true → w ≡ h) → ((g : ℕ) → 0 < marks_of (is_hold g) i v → g ≡ h)
      → GoesOn p (record v { marks = cond b (at i (Hold w) ∷ at i (Coding w) ∷ at i (Failer w) ∷ at i (Saw (w + 1)) ∷ v.marks) (at i (Saw w) ∷ v.marks) })
      (cond b (Do (OnSlot (StoreCode i h c)) (λ _. Do (OnSlot (SubRef i)) (λ _. next))) next)
  fails_branch true w is one = subst (λ x. GoesOn p (record v { marks = at i (Hold x) ∷ at i (Coding x) ∷ at i (Failer x) ∷ at i (Saw (x + 1)) ∷ v.marks }) (Do (OnSlot (StoreCode i h c)) (λ _. Do (OnSlot (SubRef i)) (λ _. next))))
      (sym (is refl)) (saves_code one)
  fails_branch false w is one = goes (at i (Saw w) ∷ []) (tt, tt)

  -- whoever holds the life sets it failed, and has only notes more behind it
  pub failed_goes : GoesOn p v (set_failed id c (λ _. next))
  failed_goes = (
    (a.holds.inside, (h, a.holds.held), a.room),
    λ found hand f. let same : even_version found ≡ h = f h a.holds.held in
        fails_branch (eqb (vref_version found % 2) 0) (vref_version found) (λ e. let even = eqb-true (vref_version found % 2) 0 e in omega (arith, even, same)) (λ g holds. sym (f g holds) ∙ same),
  )

-- ## A message got its place

-- of its one right
by_one : (p : Plan) (v : View) (r : Right) (f : Right → View) (other : View) (x : Program) → v.rights ≡ r ∷ [] → GoesOn p (f r) x → GoesOn p (by_right v.rights f other) x
by_one p v r f other x one goes = subst (λ (rs : List Right). GoesOn p (by_right rs f other) x) (sym one) goes

not_equal : (a b : ℕ) → false ≡ eqb a b → a ≢ b
not_equal a b is e = true≢false (sym (eq-eqb a b e) ∙ sym is)

module _ (p : Plan) (after : Program) where
  -- the message that follows is taken, and the loop goes on with it
  takes_next : (v : View) (h : Holder) (r : Right) (now : ℕ) → IsHolder p v h r → r.stage ≡ stages.Writes now → r.taken ≡ false → r.put ≡ 0 → Follows p v after
      → GoesOn p v (TakeMessage (ticket_request now) (λ heading bytes. Write (Puts h now heading bytes 0 false) after))
  takes_next v h r now a stage none_ put follows = (
    (r, now, a.one, stage, none_, refl, put),
    λ heading bytes inside some_. let s : Right = taken_right r heading bytes in
        by_one p v r (λ r. with_right v (taken_right r heading bytes)) v (Write (Puts h now heading bytes 0 false) after) a.one
        ((s, holder h (changed s (keeps a) a.link) a.last a.places a.away, record { stage = stage; in_hand = refl; heading_is = refl; put = refl; left_is = refl; some_left = some_; clean = λ z. absurd (omega (arith, z)); label_in = inside }), follows),
  )

  module _ (v : View) (h : Holder) (r s : Right) (now : ℕ) (a : Keeps p v h.id h.link r) (link : s.link ≡ h.link) (last : s.last ≡ h.last) (places : s.places ≡ h.places) (away : s.at_home ≡ false)
      (none_ : s.taken ≡ false) (put : s.put ≡ 0) (follows : Follows p v after) (tells : Program → Program) (tells_go : (w : View) (x : Program) → GoesOn p w x → GoesOn p w (tells x)) where
    -- the right as it is, but for its stage
    staged : (b : Stage) → IsHolder p (with_right v (record s { stage = b })) h (record s { stage = b })
    staged b = holder h (changed (record s { stage = b }) a link) last places away

    restaged : (b d : Stage) → IsHolder p (with_right (with_right v (record s { stage = b })) (record s { stage = d })) h (record s { stage = d })
    restaged b d = holder h (changed (record s { stage = d }) (keeps (staged b)) link) last places away

    next_branch : (next : ℕ) (b : Bool) → b ≡ eqb (ticket_generation now) LAST_GENERATION → (w : View) (t : Right) → IsHolder p w h t → t.taken ≡ false → t.put ≡ 0 → Follows p w after
        → GoesOn p (with_right w (record t { stage = cond b (stages.Writes next) (stages.Passes now next) }))
        (cond b (tells (TakeMessage (ticket_request next) (λ heading bytes. Write (Puts h next heading bytes 0 false) after)))
        (Do (OnChain (FreeRequest (ticket_request now) (ticket_generation now))) (λ _. tells (TakeMessage (ticket_request next) (λ heading bytes. Write (Puts h next heading bytes 0 false) after)))))
    next_branch next true is w t c none_ unput follows = let x : Right = record t { stage = stages.Writes next } in
        tells_go (with_right w x) (TakeMessage (ticket_request next) (λ heading bytes. Write (Puts h next heading bytes 0 false) after)) (takes_next (with_right w x) h x next (holder h (changed x (keeps c) c.link) c.last c.places c.away) refl none_ unput follows)
    next_branch next false is w t c none_ unput follows = let x : Right = record t { stage = stages.Passes now next } in let u : View = with_right w x in
        let d : IsHolder p u h x = holder h (changed x (keeps c) c.link) c.last c.places c.away in let y : Right = record x { stage = stages.Writes next } in (
          (now, refl, refl, not_equal _ _ is, (x, d.one, inr (next, refl))),
          λ found hand f.
              by_one p u x (λ r. with_right u (record r { stage = freed_stage r.stage })) u (tells (TakeMessage (ticket_request next) (λ heading bytes. Write (Puts h next heading bytes 0 false) after))) d.one
              (tells_go (with_right u y) (TakeMessage (ticket_request next) (λ heading bytes. Write (Puts h next heading bytes 0 false) after)) (takes_next (with_right u y) h y next (holder h (changed y (keeps d) d.link) d.last d.places d.away) refl none_ unput follows)),
        )

    passed_branch : (b d : Bool) → b ≡ eqb now h.last → d ≡ eqb (ticket_generation now) LAST_GENERATION → GoesOn p (with_right v (record s { stage = cond (b && d) stages.Empties (stages.Placed now) }))
        (cond b (cond d (tells (Write (Empties h) after)) (Do (OnChain (FreeRequest (ticket_request now) (ticket_generation now))) (λ _. tells (Write (Empties h) after))))
        (Do (OnChain (ReadNext (ticket_request now))) (λ next. freed now (tells (TakeMessage (ticket_request next) (λ heading bytes. Write (Puts h next heading bytes 0 false) after))))))
    passed_branch true true is is₁ = tells_go (with_right v (record s { stage = stages.Empties })) (Write (Empties h) after) ((record s { stage = stages.Empties }, staged stages.Empties, record { stage_is = refl; none_ = none_; put = put }), follows)
    passed_branch true false is is₁ = let x : Right = record s { stage = stages.Placed now } in let u : View = with_right v x in (
      (now, refl, refl, not_equal _ _ is₁, (x, (staged (stages.Placed now)).one, inl (refl, eqb-true now h.last (sym is) ∙ sym last))),
      λ found hand f. by_one p u x (λ r. with_right u (record r { stage = freed_stage r.stage })) u (tells (Write (Empties h) after)) (staged (stages.Placed now)).one
          (tells_go (with_right u (record x { stage = stages.Empties })) (Write (Empties h) after) ((record s { stage = stages.Empties }, restaged (stages.Placed now) stages.Empties, record { stage_is = refl; none_ = none_; put = put }), follows)),
    )
    passed_branch false d is is₁ = let x : Right = record s { stage = stages.Placed now } in let u : View = with_right v x in (
      (x, (staged (stages.Placed now)).one, inl (now, refl, (λ e. not_equal now h.last is (e ∙ last)), refl)),
      λ found hand f. by_one p u x (λ r. read_next found u r r.stage) u (freed now (tells (TakeMessage (ticket_request found) (λ heading bytes. Write (Puts h found heading bytes 0 false) after)))) (staged (stages.Placed now)).one
          (next_branch found (eqb (ticket_generation now) LAST_GENERATION) refl u x (staged (stages.Placed now)) none_ put follows),
    )

    pub passed_goes : s.stage ≡ stages.Placed now → GoesOn p (with_right v (settled s)) (passed_telling h now tells after)
    passed_goes stage = subst (λ b. GoesOn p (with_right v (record s { stage = settled_stage s.last b })) (passed_telling h now tells after)) (sym stage)
        (subst (λ l. GoesOn p (with_right v (record s { stage = settled_stage l (stages.Placed now) })) (passed_telling h now tells after)) (sym last) (passed_branch (eqb now h.last) (eqb (ticket_generation now) LAST_GENERATION) refl refl))

-- ## The message in hand

module _ {p : Plan} {v : View} {h : Holder} {r : Right} where
  holder_noted : (new : List SlotMark) → AreNotes new → IsHolder p v h r → IsHolder p (with_notes new v) h r
  holder_noted new are a = holder h (noted new are (keeps a)) a.last a.places a.away

  abbrev own_right : IsHolder p v h r → HasRight v
  own_right a = record { right = r; place = 0; has = ap (λ (rs : List Right). get_elem? rs 0) a.one }

  life_of_link : IsHolder p v h r → HoldsLink p v (socket_id_slot h.id) (socket_id_version h.id) r.link
  life_of_link a = subst (HoldsLink p v (socket_id_slot h.id) (socket_id_version h.id)) (sym a.link) a.holds

module _ (p : Plan) (after : Program) (v : View) (h : Holder) (r : Right) (now : ℕ) (heading : Heading) (a : IsHolder p v h r) (stage : r.stage ≡ stages.Writes now) (in_hand : r.taken ≡ true)
    (heading_is : r.heading ≡ heading) (label_in : heading.label.place < 8 * p.operations) (follows : Follows p v after) where
  labelled : r.heading.label.place < 8 * p.operations
  labelled = subst (λ (x : Heading). x.label.place < 8 * p.operations) (sym heading_is) label_in

  -- the link took the message whole
  pub placed_goes : r.clean ≡ true → r.put ≡ length r.bytes → GoesOn p v (placed h now heading after)
  placed_goes clean whole = (
    (record { mine = own_right a; now = now; stage = stage; taken = in_hand; is_clean = clean; away = a.away; label_in = labelled }, a.one, ap (λ (x : Heading). x.label.place) (sym heading_is), sym a.link, sym a.places, whole),
    λ found hand f. by_one p v r (λ r. placed_next v r r.stage) v (passed (one_more h) now after) a.one
        (subst (λ b. GoesOn p (placed_next v r b) (passed (one_more h) now after)) (sym stage)
        (passed_goes p after v (one_more h) r (placed_right r now) now (keeps a) a.link a.last (omega (arith, a.places)) a.away refl refl follows (λ x. x) (λ w x g. g) refl)),
  )

module _ (p : Plan) (after : Program) (v : View) (h : Holder) (r : Right) (now : ℕ) (heading : Heading) (left : List ℕ) (taken : ℕ) (a : IsHolder p v h r) (m : HasMessage p r now heading left taken) (follows : Follows p v after) where
  -- a link took a part of a message at most, where this is left of it
  part_of : r.put ≡ 0 ⊎ (r.clean ≡ true)
      → (r.sent ++ take r.put r.bytes ≡ r.sent) ⊎ ((r.clean ≡ true) × (part : List ℕ) × (rest : List ℕ) × (r.sent ++ take r.put r.bytes ≡ r.sent ++ part) × (r.bytes ≡ part ++ rest) × (rest ≢ []))
  part_of (inl none_) = inl (ap (λ n. r.sent ++ take n r.bytes) none_ ∙ append-nil r.sent)
  part_of (inr clean) = inr (clean, take r.put r.bytes, drop r.put r.bytes, refl, sym (take-append-drop r.put r.bytes), λ e. m.some_left (sym m.left_is ∙ e))

  clean_or_none : r.put ≡ 0 ⊎ (r.clean ≡ true)
  clean_or_none = dite (ℕ_discrete r.put 0) (λ e. inl e) (λ n. inr (m.clean (omega (arith, n, m.put))))

  drops_goes : (code : ℕ) → 0 < marks_of (is_saw (socket_id_version h.id + 1)) (socket_id_slot h.id) v → GoesOn p v (Do (OnPlace (DropPlace heading.label.place h.link h.places)) (λ _. passed_telling (one_more h) now (tell_drop heading code) after))
  drops_goes code saw = let sent : List ℕ = r.sent ++ take r.put r.bytes in (
    (
      record { mine = own_right a; now = now; sent = sent; stage = m.stage; taken = m.in_hand; away = a.away; label_in = labelled p after v h r now heading a m.stage m.in_hand m.heading_is m.label_in follows; part = part_of clean_or_none },
      a.one,
      ap (λ (x : Heading). x.label.place) (sym m.heading_is),
      sym a.link,
      sym a.places,
      refl,
      (socket_id_slot h.id, socket_id_version h.id, life_of_link a, saw),
    ),
    λ found hand f. by_one p v r (λ r. dropped_next v r r.stage) v (passed_telling (one_more h) now (tell_drop heading code) after) a.one
        (subst (λ b. GoesOn p (dropped_next v r b) (passed_telling (one_more h) now (tell_drop heading code) after)) (sym m.stage)
        (passed_goes p after v (one_more h) r (dropped_right r now sent) now (keeps a) a.link a.last (omega (arith, a.places)) a.away refl refl follows (tell_drop heading code) (λ w x g. tell_goes p w heading code x g) refl)),
  )

-- a piece has room for a byte
some_min : (a b : ℕ) → 0 < a → 0 < b → 0 < min a b
some_min a b x y = omega (arith, x, y)

some_room : (parts : List ℕ) (taken : ℕ) → 0 < room_of_part parts taken
some_room [] taken = omega arith
some_room (n ∷ ns) taken = by_part (ltb taken n) refl (some_room ns (taken - n))
  where
    by_part : (b : Bool) → ltb taken n ≡ b → 0 < room_of_part ns (taken - n) → 0 < cond b (min (n - taken) (8192 - taken % 8192)) (room_of_part ns (taken - n))
    by_part true is more = let less : taken < n = ltb-true taken n is in some_min (n - taken) (8192 - taken % 8192) (omega (arith, less)) (omega arith)
    by_part false is more = more

module _ (p : Plan) (after : Program) (h : Holder) (now : ℕ) (heading : Heading) (left : List ℕ) (taken : ℕ) where
  pub dropped_goes : (v : View) (r : Right) → IsHolder p v h r → HasMessage p r now heading left taken → Follows p v after → 0 < marks_of (is_saw (socket_id_version h.id + 1)) (socket_id_slot h.id) v
      → GoesOn p v (dropped h now heading after)
  dropped_goes v r a m follows saw = let i : ℕ = socket_id_slot h.id in let g : ℕ = socket_id_version h.id in
      ((a.holds.inside, a.holds.held), λ found hand f. by_code found (eqb found 0))
    where
      by_code : (found : ℕ) (b : Bool) → GoesOn p (cond b v (told_code (socket_id_slot h.id) (socket_id_version h.id) found v)) (Do (OnPlace (DropPlace heading.label.place h.link h.places)) (λ _. passed_telling (one_more h) now (tell_drop heading found) after))
      by_code found true = drops_goes p after v h r now heading left taken a m follows found saw
      by_code found false = let i : ℕ = socket_id_slot h.id in let g : ℕ = socket_id_version h.id in let new : List SlotMark = at i (Told g found) ∷ at i (Saw (g + 1)) ∷ [] in
          drops_goes p after (with_notes new v) h r now heading left taken (holder_noted new (tt, (tt, tt)) a) m (follows_noted p v after new (tt, (tt, tt)) follows) found (omega (arith, saw, about_append i (is_saw (g + 1)) new v.marks))

  -- the link failed, or its seat asks again
  refused_goes : (v : View) (r : Right) → IsHolder p v h r → HasMessage p r now heading left taken → Follows p v after → GoesOn p v (set_failed h.id 1009 (λ _. Write (Puts h now heading left taken false) after))
  refused_goes v r a m follows = failed_goes p v h.id h.link 1009 r (keeps a) (omega arith) (Write (Puts h now heading left taken false) after)
      (λ new are. ((r, holder_noted new are a, m), follows_noted p v after new are follows))

  module _ (v : View) (r : Right) (a : IsHolder p v h r) (m : HasMessage p r now heading left taken) (clean : r.clean ≡ true) (follows : Follows p v after) where
    some_piece : (n : ℕ) (left : List ℕ) → 0 < n → left ≢ [] → take n left ≢ []
    some_piece n [] few some_ e = some_ refl
    some_piece zero (x ∷ xs) few some_ e = absurd (omega (arith, few))
    some_piece (suc n) (x ∷ xs) few some_ e = cons-ne-nil _ _ e

    some_length : (l : List ℕ) → l ≢ [] → 0 < length l
    some_length [] some_ = absurd (some_ refl)
    some_length (x ∷ xs) some_ = omega arith

    bytes_left : length left + r.put ≡ length r.bytes
    bytes_left = omega (arith, ap (λ (l : List ℕ). length l) (sym m.left_is) ∙ length-drop r.put r.bytes, some_length left m.some_left)

    drops_more : (n : ℕ) → drop (r.put + n) r.bytes ≡ drop n left
    drops_more n = sym (drop-drop n r.put r.bytes) ∙ ap (drop n) m.left_is

    some_left : (n : ℕ) → n < length left → drop n left ≢ []
    some_left n less e = absurd (omega (arith, less, sym (length-drop n left) ∙ ap (λ (l : List ℕ). length l) e))

    took_branch : (n : ℕ) → n ≤ length left → (b : Bool) → b ≡ leb (length left) n → GoesOn p (with_right v (put_right r n)) (cond b (placed h now heading after) (Write (Puts h now heading (drop n left) (taken + n) false) after))
    took_branch n fits true is = let s : Right = put_right r n in placed_goes p after (with_right v s) h s now heading (holder h (changed s (keeps a) a.link) a.last a.places a.away) m.stage m.in_hand m.heading_is m.label_in follows clean
        (omega (arith, fits, leb-true (length left) n (sym is), bytes_left))
    took_branch n fits false is = let s : Right = put_right r n in let less = leb-false (length left) n (sym is) in (
      (
        s,
        holder h (changed s (keeps a) a.link) a.last a.places a.away,
        record { stage = m.stage; in_hand = m.in_hand; heading_is = m.heading_is; put = omega (arith, m.put); left_is = drops_more n; some_left = some_left n less; clean = λ z. clean; label_in = m.label_in },
      ),
      follows,
    )

    put_goes : (asked : Bool) → GoesOn p v (PutBytes h.link asked (take (room_of_part heading.parts taken) left) (put_answered h now heading left taken after))
    put_goes asked = (
      (r, (a.one, a.link, a.away, a.hands), m.in_hand, clean, some_piece (room_of_part heading.parts taken) left (some_room heading.parts taken) m.some_left, (drop (room_of_part heading.parts taken) left, m.left_is ∙ sym (take-append-drop (room_of_part heading.parts taken) left))),
      answers,
    )
      where
        answers : (answer : Put) → FitsPut asked (take (room_of_part heading.parts taken) left) answer → GoesOn p (took_bytes answer v) (put_answered h now heading left taken after answer)
        answers (puts.Took n) fits = by_one p v r (λ r. with_right v (put_right r n)) v (put_answered h now heading left taken after (puts.Took n)) a.one
            (took_branch n (omega (arith, fits.1, length-take (room_of_part heading.parts taken) left)) (leb (length left) n) refl)
        answers puts.Again fits = ((r, a, m), follows)
        answers puts.Failed fits = refused_goes v r a m follows

  -- ## One round

  look_branch : (v : View) (r : Right) (asked : Bool) → IsHolder p v h r → HasMessage p r now heading left taken → Follows p v after → (b : Bool) (w : ℕ) → (b ≡ false → w ≡ socket_id_version h.id + 1)
      → GoesOn p (cond b (with_right (with_notes (at (socket_id_slot h.id) (Saw w) ∷ []) v) (record r { clean = true })) (with_notes (at (socket_id_slot h.id) (Saw w) ∷ []) v))
      (cond b (PutBytes h.link asked (take (room_of_part heading.parts taken) left) (put_answered h now heading left taken after)) (dropped h now heading after))
  look_branch v r asked a m follows true w odd = let i : ℕ = socket_id_slot h.id in let new : List SlotMark = at i (Saw w) ∷ [] in let s : Right = record r { clean = true } in
      put_goes (with_right (with_notes new v) s) s (holder h (changed s (noted new (tt, tt) (keeps a)) a.link) a.last a.places a.away)
      (record { stage = m.stage; in_hand = m.in_hand; heading_is = m.heading_is; put = m.put; left_is = m.left_is; some_left = m.some_left; clean = λ z. refl; label_in = m.label_in }) refl (follows_noted p v after new (tt, tt) follows) asked
  look_branch v r asked a m follows false w odd = let i : ℕ = socket_id_slot h.id in let new : List SlotMark = at i (Saw w) ∷ [] in
      dropped_goes (with_notes new v) r (holder_noted new (tt, tt) a) m (follows_noted p v after new (tt, tt) follows)
      (omega (arith, about_top (is_saw (socket_id_version h.id + 1)) i (Saw w) v.marks, ap (is_saw (socket_id_version h.id + 1)) (ap Saw (odd refl)), only-same (socket_id_version h.id + 1)))

  puts_round : (v : View) (r : Right) (asked : Bool) → IsHolder p v h r → HasMessage p r now heading left taken → Follows p v after → GoesOn p v (block (Puts h now heading left taken asked) after)
  puts_round v r asked a m follows = let i : ℕ = socket_id_slot h.id in (
    (a.holds.inside, inr (r, a.one, life_of_link a), a.holds.held),
    λ found hand f. let b : Bool = eqb (vref_version found % 2) 0 in let same : even_version found ≡ socket_id_version h.id = f.0 (socket_id_version h.id) a.holds.held in
        by_one p v r (looked_clean i found v) (looked i found v) (cond b (PutBytes h.link asked (take (room_of_part heading.parts taken) left) (put_answered h now heading left taken after)) (dropped h now heading after)) a.one
        (look_branch v r asked a m follows b (vref_version found) (λ e. omega (arith, same, not_equal (vref_version found % 2) 0 (sym e)))),
  )

  -- the first look comes before the loop
  pub first_goes : taken ≡ 0 → (v : View) (r : Right) → IsHolder p v h r → HasMessage p r now heading left taken → Follows p v after → GoesOn p v (first_put h now heading left after)
  first_goes none_ v r a m follows = let i : ℕ = socket_id_slot h.id in (
    (a.holds.inside, inr (r, a.one, life_of_link a), a.holds.held),
    λ found hand f. let b : Bool = eqb (vref_version found % 2) 0 in
        by_one p v r (looked_clean i found v) (looked i found v) (cond b (PutBytes h.link false (take (room_of_part heading.parts 0) left) (put_answered h now heading left 0 after)) (Write (Puts h now heading left 0 false) after)) a.one
        (first_branch b (vref_version found)),
  )
    where
      first_branch : (b : Bool) (w : ℕ) → GoesOn p (cond b (with_right (with_notes (at (socket_id_slot h.id) (Saw w) ∷ []) v) (record r { clean = true })) (with_notes (at (socket_id_slot h.id) (Saw w) ∷ []) v))
          (cond b (PutBytes h.link false (take (room_of_part heading.parts 0) left) (put_answered h now heading left 0 after)) (Write (Puts h now heading left 0 false) after))
      first_branch true w = subst (λ n. GoesOn p (with_right (with_notes (at (socket_id_slot h.id) (Saw w) ∷ []) v) (record r { clean = true })) (PutBytes h.link false (take (room_of_part heading.parts n) left) (put_answered h now heading left n after))) none_
          (look_branch v r false a m follows true w (λ e. absurd (true≢false e)))
      first_branch false w = let new : List SlotMark = at (socket_id_slot h.id) (Saw w) ∷ [] in
          ((r, holder_noted new (tt, tt) a, subst (λ n. HasMessage p r now heading left n) none_ m), follows_noted p v after new (tt, tt) follows)

  waits_round : (v : View) (r : Right) → IsHolder p v h r → HasMessage p r now heading left taken → Follows p v after → GoesOn p v (block (Waits h now heading left taken) after)
  waits_round v r a m follows = ((r, (a.one, a.link, a.away, a.hands)), answers)
    where
      answers : (answer : Ready) → GoesOn p v (ready_answered h now heading left taken after answer)
      answers asks.Now = ((r, a, m), follows)
      answers asks.NotYet = ((r, a, m), follows)
      answers asks.Failed = refused_goes v r a m follows

module _ (p : Plan) (after : Program) (v : View) (h : Holder) (r : Right) (a : IsHolder p v h r) (follows : Follows p v after) where
  -- the right is given up, or the head was busy again and the walk begins
  empties_branch : (s : Right) (found : ℕ) (b : Bool) → Keeps p (with_right v s) h.id h.link s → s.link ≡ h.link → s.at_home ≡ true → s.taken ≡ false → s.put ≡ 0 → s.last ≡ h.last
      → GoesOn p (cond b (without_right (with_right v s) s.link) (with_right (with_right v s) (record s { stage = stages.Reversing found found 0 })))
      (cond b after (TakeHome h.link (λ places. Write (Reversing (record h { places = places }) found found 0) after)))
  empties_branch s found true c link home none_ put last = subst (λ (rs : List Right). GoesOn p (record v { rights = rs }) after)
      (sym (ap (filter (λ (x : Right). not (eqb x.link s.link))) c.one ∙ others_none s s refl)) (follows [] tt)
  empties_branch s found false c link home none_ put last = let t : Right = record s { stage = stages.Reversing found found 0 } in let u : View = with_right (with_right v s) t in
      let d : Keeps p u h.id h.link t = changed t c link in let x : Right = record t { at_home = false } in (
        t,
        (d.one, d.link, home, d.hands),
        put,
        by_one p u t (λ r. with_right u (record r { at_home = false })) u (Write (Reversing (record h { places = t.places }) found found 0) after) d.one
            ((x, holder (record h { places = t.places }) (changed x d link) last refl refl, record { stage_is = refl; none_ = none_; put = put }), follows),
      )

  empties_round : IsBetween r stages.Empties → GoesOn p v (block (Empties h) after)
  empties_round b = let s : Right = record r { at_home = true } in let u : View = with_right v s in let c : Keeps p u h.id h.link s = changed s (keeps a) a.link in (
    r,
    (a.one, a.link, a.away, a.hands),
    a.places,
    b.put,
    b.none_,
    by_one p v r (λ r. with_right v (record r { at_home = true })) v
        (Do (OnChain (EmptyHead (socket_id_slot h.id) h.last)) (λ found. cond (eqb found h.last) after (TakeHome h.link (λ places. Write (Reversing (record h { places = places }) found found 0) after)))) a.one (
          (
            a.holds.inside,
            (
              record {
                mine = record { right = s; place = 0; has = ap (λ (rs : List Right). get_elem? rs 0) c.one };
                stage = b.stage_is;
                link_home = refl;
                last_is = a.last;
                empty_is = refl;
                life = socket_id_version h.id;
                holds = subst (HoldsLink p u (socket_id_slot h.id) (socket_id_version h.id)) (sym a.link) c.holds;
              },
              c.one,
            ),
          ),
          λ found hand f. by_one p u s (emptied h.last found u) u (cond (eqb found h.last) after (TakeHome h.link (λ places. Write (Reversing (record h { places = places }) found found 0) after))) c.one
              (empties_branch s found (eqb found h.last) c a.link refl b.none_ b.put a.last),
        ),
  )

  module _ (top place successor : ℕ) where
    -- the walk turned the entry, and has come to that behind the last one noted, or to the next
    turned_branch : (u : View) (t : Right) (found : ℕ) (b : Bool) → Keeps p u h.id h.link t → t.last ≡ h.last → t.places ≡ h.places → t.at_home ≡ false → t.taken ≡ false → t.put ≡ 0 → Follows p u after
        → GoesOn p (with_right u (cond b (record t { last = top; stage = stages.Writes place; turned = 0; noted = t.noted + suc t.turned }) (record t { stage = stages.Reversing top found place; turned = suc t.turned })))
        (cond b (TakeMessage (ticket_request place) (λ heading bytes. Write (Puts (record h { last = top }) place heading bytes 0 false) after)) (Write (Reversing h top found place) after))
    turned_branch u t found true c last places away none_ put follows = let x : Right = record t { last = top; stage = stages.Writes place; turned = 0; noted = t.noted + suc t.turned } in
        takes_next p after (with_right u x) (record h { last = top }) x place (holder (record h { last = top }) (changed x c c.link) refl places away) refl none_ put follows
    turned_branch u t found false c last places away none_ put follows = let x : Right = record t { stage = stages.Reversing top found place; turned = suc t.turned } in
        ((x, holder h (changed x c c.link) last places away, record { stage_is = refl; none_ = none_; put = put }), follows)

    read_branch : IsBetween r (stages.Reversing top place successor) → (found : ℕ) (b : Bool) → GoesOn p (cond b v (with_right v (record r { stage = stages.ReversesNext top place successor found })))
        (cond b (Write (Reversing h top place successor) after)
        (Do (OnChain (ReverseNext (ticket_request place) successor)) (λ _. cond (eqb found h.last) (TakeMessage (ticket_request place) (λ heading bytes. Write (Puts (record h { last = top }) place heading bytes 0 false) after)) (Write (Reversing h top found place) after))))
    read_branch b found true = ((r, a, b), follows)
    read_branch b found false = let t : Right = record r { stage = stages.ReversesNext top place successor found } in let u : View = with_right v t in let c : Keeps p u h.id h.link t = changed t (keeps a) a.link in
        let next : Program = cond (eqb found h.last) (TakeMessage (ticket_request place) (λ heading bytes. Write (Puts (record h { last = top }) place heading bytes 0 false) after)) (Write (Reversing h top found place) after) in (
          (record { mine = record { right = t; place = 0; has = ap (λ (rs : List Right). get_elem? rs 0) c.one }; top = top; at = place; before = found; stage = refl }, c.one, refl),
          λ word hand f. by_one p u t (λ r. turned_next u r r.stage) u next c.one
              (subst (λ l. GoesOn p (with_right u (cond (eqb found l) (record t { last = top; stage = stages.Writes place; turned = 0; noted = t.noted + suc t.turned }) (record t { stage = stages.Reversing top found place; turned = suc t.turned }))) next) (sym a.last)
              (turned_branch u t found (eqb found h.last) c a.last a.places a.away b.none_ b.put follows)),
        )

    walks_round : IsBetween r (stages.Reversing top place successor) → GoesOn p v (block (Reversing h top place successor) after)
    walks_round b = let next : ℕ → Program = λ found. cond (eqb found UNCONNECTED) (Write (Reversing h top place successor) after)
        (Do (OnChain (ReverseNext (ticket_request place) successor)) (λ _. cond (eqb found h.last) (TakeMessage (ticket_request place) (λ heading bytes. Write (Puts (record h { last = top }) place heading bytes 0 false) after)) (Write (Reversing h top found place) after))) in (
          (r, a.one, inr (top, place, successor, b.stage_is, refl)),
          λ found hand f. by_one p v r (λ r. read_next found v r r.stage) v (next found) a.one (subst (λ x. GoesOn p (read_next found v r x) (next found)) (sym b.stage_is) (read_branch b found (eqb found UNCONNECTED))),
        )

-- from the head of a loop one round goes on
pub begins_round : (p : Plan) (v : View) (w : Writing) (after : Program) → GoesOn p v (Write w after) → GoesOn p v (block w after)
begins_round p v (Puts h now heading left taken asked) after goes = puts_round p after h now heading left taken v goes.0.0 asked goes.0.1 goes.0.2 goes.1
begins_round p v (Waits h now heading left taken) after goes = waits_round p after h now heading left taken v goes.0.0 goes.0.1 goes.0.2 goes.1
begins_round p v (Empties h) after goes = empties_round p after v h goes.0.0 goes.0.1 goes.1 goes.0.2
begins_round p v (Reversing h top place successor) after goes = walks_round p after v h goes.0.0 goes.0.1 goes.1 top place successor goes.0.2
