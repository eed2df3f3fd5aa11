-- No two accepted messages have one place word, so the orders of the links are those that words and links show.
use Rattle.std.proofs.Common.{◌≡◌, ◌≢◌, ℕ, zero, suc, ◌+◌, ◌*◌, ◌<◌, ◌≤◌, ◌⊎◌, inl, inr, ⊎_elim, Bool, true, false, cond, eqb, eq-eqb, ne_eqb, List, [], ◌∷◌, refl, sym, ap, ◌∙◌, subst, arith}
use Rattle.std.proofs.lemmas.Bool.{true≢false}
use Rattle.std.specs.List.{AllByRecursion}
use mathlib.Core.Logic.{dite}
use native.Mathlib.Decide.{ℕ_discrete, dec_le}
use mathlib.Core.Option.{some, some-injective, some-ne-none}
use lib.ListN.{get_elem?}
use Rattle.sock_words.specs.declared.plain.Plan.{Plan}
use Rattle.sock_model.specs.declared.chain.Entry.{Entry}
use Rattle.sock_model.specs.declared.chain.Heading.{Heading}
use Rattle.sock_model.specs.declared.view.View.{View}
use Rattle.run_theorems.specs.Below.chain_steps.proofs.TicketLists.{Distinct}
use Rattle.call_causes.specs.Below.programs_allowed.specs.slot_steps.proofs.SlotWeightSums.{term_le}
use Rattle.corr_core.specs.declared.marks.Plan.{Plan as IdPlan}
use Rattle.sock_message.specs.Asked.{Asked, frame_of}
use Rattle.seat_programs.specs.declared.task.Task.{Task}
use Rattle.seat_programs.specs.Cores.{Core}
use Rattle.seat_programs.specs.Explained.{AreTasks}
use Rattle.seat_programs.specs.ExplainedCalls.{Accepted, AreOrders}
use Rattle.outcome_causes.specs.program_steps.specs.SoundSeats.{Sound, AllRest}
use Rattle.outcome_causes.specs.sock_runs.proofs.HandTicks.{AtHome}
use Rattle.call_causes.specs.Below.outcome_stories.specs.StoryStepCauses.{Asks}
use Rattle.call_causes.specs.Below.outcome_stories.specs.KeptStory.{is_of_send, IsSpoken, Story}
use Rattle.call_causes.specs.Below.outcome_stories.specs.OperationStories.{Event}
use Rattle.call_causes.specs.Below.outcome_stories.proofs.Delivered.{orders_of, AreQuiet}
use Rattle.outcome_causes.proofs.Final.{IsMessage}
use Rattle.call_causes.specs.Below.outcome_stories.proofs.Members.{all_in}
use Rattle.outcome_causes.proofs.MessagesOfTasks.{in_of_at, number_of, each_made, message_of, call_of, sooner}
use Rattle.call_causes.specs.Below.outcome_stories.proofs.Ordered.{IsLabelled, delivered}
use Rattle.call_causes.specs.Below.outcome_stories.proofs.SendersOfLogEntries.{HasSent, sent_in, each_of, apart_by, all_sent}
use Rattle.outcome_causes.specs.outcome_ticks.proofs.TableTasksDistinct.{one_task}
use Rattle.label_runs.specs.AttemptLabelsLeft.{Trial}
use Rattle.accept_counts.specs.AttemptCounts.{pair_of, of_heading, of_entry, of_view, IsOfCall, EntryFits, LabelLaw}
use Rattle.outcome_causes.specs.program_walks.proofs.Recorded.{either_bool}
use Rattle.sock_words.specs.Totals.{total}

-- two places of a list count twice
pub total_two : {A : Type 0} (g : A → ℕ) (l : List A) (m n : ℕ) (a b : A) → get_elem? l m ≡ some a → get_elem? l n ≡ some b → m ≢ n → g a + g b ≤ total g l
total_two g [] m n a b x y ne = absurd (some-ne-none a (sym x))
total_two g (e ∷ l) zero zero a b x y ne = absurd (ne refl)
total_two g (e ∷ l) zero (suc n) a b x y ne = let z : g e ≡ g a = ap g (some-injective e a x) in let t = term_le g l n b y in omega (arith, z, t)
total_two g (e ∷ l) (suc m) zero a b x y ne = let z : g e ≡ g b = ap g (some-injective e b y) in let t = term_le g l m a x in omega (arith, z, t)
total_two g (e ∷ l) (suc m) (suc n) a b x y ne = let t = total_two g l m n a b x y (λ q. ne (omega (arith, q))) in omega (arith, t)

pair_self : (id n i m : ℕ) → i ≡ id → m ≡ n → pair_of id n i m ≡ 1
pair_self id n i m e f = ap (λ b. cond b (cond (eqb m n) 1 0) 0) (eq-eqb i id e) ∙ ap (λ b. cond b 1 0) (eq-eqb m n f)

pub heading_one : (id n : ℕ) (h : Heading) → h.owner ≢ 0 → h.owner ≡ id → h.label.attempt ≡ n → of_heading id n h ≡ 1
heading_one id n h some_ a b = ap (λ z. cond z 0 (pair_of id n h.owner h.label.attempt)) (ne_eqb h.owner 0 some_) ∙ pair_self id n h.owner h.label.attempt a b

module _ (is_call : Asked → Type 0) (ids : ℕ → ℕ) (vs : List View) (once : (id n : ℕ) → total (of_view id n) vs ≤ 1) where
  -- two messages of one attempt would count twice
  view_most : (i n : ℕ) (e : Entry) (h : HasSent vs i n e) (id a : ℕ) → total (of_entry id a) h.made ≤ of_view id a h.view
  view_most i n e h id a = let z : total (total (of_entry id a)) h.view.lists ≡ total (of_entry id a) h.made + 0 = ap (total (total (of_entry id a))) h.lists in omega (arith, z)

  pub calls_apart : (i j m n : ℕ) (d e : Entry) (h : HasSent vs i m d) (k : HasSent vs j n e) → IsOfCall is_call ids d.heading d.bytes → IsOfCall is_call ids e.heading e.bytes → d.heading.label.place ≡ e.heading.label.place → (i ≡ j) × (m ≡ n)
  calls_apart i j m n d e h k f g same = dite (ℕ_discrete i j)
      (λ ij. dite (ℕ_discrete m n) (λ mn. (ij, mn)) (λ ne. absurd (let stands = sent_in vs j n e h.view h.made k (sym (ap (get_elem? vs) ij) ∙ h.here) h.lists in
      let two = total_two (of_entry id att) h.made m n d e h.stands stands ne in let most = view_most i m d h id att in let all = term_le (of_view id att) vs i h.view h.here in
      let one = once id att in omega (arith, two, most, all, one, one_d, one_e))))
      (λ ne. absurd (let two = total_two (of_view id att) vs i j h.view k.view h.here k.here ne in let a = term_le (of_entry id att) h.made m d h.stands in let b = term_le (of_entry id att) k.made n e k.stands in
      let most_a = view_most i m d h id att in let most_b = view_most j n e k id att in let one = once id att in omega (arith, two, a, b, most_a, most_b, one, one_d, one_e)))
    where
      id : ℕ
      id = d.heading.owner

      att : ℕ
      att = d.heading.label.attempt

      op : d.heading.label.operation ≡ e.heading.label.operation
      op = let a = f.2 in let b = g.2 in let x = f.3 in let y = g.3 in omega (arith, a, b, x, y, same)

      one_d : of_entry id att d ≡ 1
      one_d = heading_one d.heading.owner d.heading.label.attempt d.heading f.0 refl refl

      one_e : of_entry id att e ≡ 1
      one_e = heading_one d.heading.owner d.heading.label.attempt e.heading g.0 (sym g.1 ∙ (ap ids (sym op) ∙ f.1)) (let a = f.2 in let b = g.2 in let x = f.3 in let y = g.3 in omega (arith, a, b, x, y, same))

module _ (p : Plan) (q : IdPlan) (is_call : Asked → Type 0) (ids : ℕ → ℕ) (clients : List (List Task)) (are : AreTasks p clients) (c : Core) (vs : List View) (es : List Event) (lost : List ℕ) (sound : Sound p c vs) (story : Story p clients true c vs es lost) (settled : AllRest c)
    (ts : List Trial) (law : LabelLaw is_call ids p q c vs ts) where
  fits : (i n : ℕ) (e : Entry) → HasSent vs i n e → EntryFits is_call ids p e
  fits i n e h = let all = (law.views i h.view h.here).1 in all_in (EntryFits is_call ids p) h.made e (subst (AllByRecursion (AllByRecursion (EntryFits is_call ids p))) h.lists all).0 (in_of_at h.made n e h.stands)

  -- a message that isn't a send's is the frame of an attempt of its call
  pub of_call_fits : (i n : ℕ) (e : Entry) → HasSent vs i n e → is_of_send e ≡ false → IsOfCall is_call ids e.heading e.bytes
  of_call_fits i n e h not_ = ⊎_elim
      (λ none_. let z : is_of_send e ≡ true = ap (λ l. elim l as (λ l. Bool) [ [] ↦ true | x ∷ xs ↦ false ]) none_.1 in absurd (true≢false (sym z ∙ not_)))
      (λ x. x) (fits i n e h).0

  module _ (i n : ℕ) (e : Entry) (h : HasSent vs i n e) (is : is_of_send e ≡ true) where
    abbrev message : IsMessage p clients are true c vs es lost sound story settled i e
    message = message_of p clients are true c vs es lost sound story settled i n e h is

    send_number : e.heading.label.operation ≡ message.task.number
    send_number = number_of p clients are true c vs es lost sound story settled i e message

    send_place : e.heading.label.place ≡ 8 * e.heading.label.operation
    send_place = ap (λ (x : Heading). x.label.place) message.of_task.heading ∙ ap (λ x. 8 * x) (sym send_number)

    send_first : e.heading.label.attempt ≡ 0
    send_first = ap (λ (x : Heading). x.label.attempt) message.of_task.heading

  spoken : (i n : ℕ) (e : Entry) → HasSent vs i n e → is_of_send e ≡ false → IsSpoken clients e.heading.label.operation
  spoken i n e h not_ = call_of p clients are true c vs es lost sound story settled i n e h not_

  -- two messages of sends
  sends_apart : (i j m n : ℕ) (d e : Entry) (h : HasSent vs i m d) (k : HasSent vs j n e) → is_of_send d ≡ true → is_of_send e ≡ true → d.heading.label.place ≡ e.heading.label.place → (i ≡ j) × (m ≡ n)
  sends_apart i j m n d e h k sd se same =
      let a = send_place i m d h sd in let b = send_place j n e k se in let x = message i m d h sd in let y = message j n e k se in let op : d.heading.label.operation ≡ e.heading.label.operation = omega (arith, a, b, same) in
      let one = one_task p clients are i j x.task y.task x.asks y.asks (sym (send_number i m d h sd) ∙ (op ∙ send_number j n e k se)) in
      let k' : HasSent vs i n e = subst (λ z. HasSent vs z n e) (sym one.0) k in (
        one.0,
        dite (ℕ_discrete m n) (λ z. z) (λ ne. absurd (dite (dec_le m n)
            (λ le. let s = sooner p clients are true c vs es lost sound story settled i m n d e h k' sd se (omega (arith, le, ne)) in omega (arith, s, op))
            (λ gt. let s = sooner p clients are true c vs es lost sound story settled i n m e d k' h se sd (omega (arith, gt)) in omega (arith, s, op)))),
      )

  -- a call's operation is no task's
  kinds_apart : (i j m n : ℕ) (d e : Entry) (h : HasSent vs i m d) (k : HasSent vs j n e) → is_of_send d ≡ true → is_of_send e ≡ false → d.heading.label.place ≡ e.heading.label.place → ⊥
  kinds_apart i j m n d e h k sd se same = let a = send_place i m d h sd in let f = of_call_fits j n e k se in let b = f.2 in let few = f.3 in let x = message i m d h sd in
      let op : d.heading.label.operation ≡ e.heading.label.operation = omega (arith, a, b, few, same) in spoken j n e k se i x.task x.asks (sym (send_number i m d h sd) ∙ op)

  apart : (i j m n : ℕ) (d e : Entry) → HasSent vs i m d → HasSent vs j n e → d.heading.label.place ≡ e.heading.label.place → (i ≡ j) × (m ≡ n)
  apart i j m n d e h k same = ⊎_elim
      (λ sd. ⊎_elim (λ se. sends_apart i j m n d e h k sd se same) (λ se. absurd (kinds_apart i j m n d e h k sd se same)) (either_bool (is_of_send e)))
      (λ sd. ⊎_elim (λ se. absurd (kinds_apart j i n m e d k h se sd (sym same))) (λ se. calls_apart is_call ids vs (λ id n. let once = law.once id n in omega (arith, once)) i j m n d e h k (of_call_fits i m d h sd) (of_call_fits j n e k se) same) (either_bool (is_of_send e)))
      (either_bool (is_of_send d))

  -- no two accepted messages have one place word
  pub places_apart : Distinct (λ (e : Entry). e.heading.label.place) sound.lawful.log
  places_apart i j d e gd ge same = apart_by p c vs sound.lawful (each_made p clients are true c vs es lost sound story settled) (λ d e. d.heading.label.place ≡ e.heading.label.place) apart i j d e gd ge same

  one_labelled : (i n : ℕ) (e : Entry) → HasSent vs i n e → IsLabelled p e
  one_labelled i n e h = let body = (fits i n e h).1 in ⊎_elim
      (λ is. ((let a = send_place i n e h is in let b = send_first i n e h is in omega (arith, a, b)), body.0, body.1))
      (λ not_. ((of_call_fits i n e h not_).2, body.0, body.1)) (either_bool (is_of_send e))

  pub all_labelled : (i : ℕ) (e : Entry) → get_elem? sound.lawful.log i ≡ some e → IsLabelled p e
  all_labelled = each_of p c vs sound.lawful (each_made p clients are true c vs es lost sound story settled) (IsLabelled p) one_labelled

  -- the orders of the links are those that words and links show
  pub are_orders : AreQuiet vs → ((k : ℕ) → k < p.links → AtHome p c.homes k) → AreOrders p c (orders_of p c vs sound.lawful)
  are_orders quiet at_home = delivered p c vs sound.lawful quiet at_home all_labelled places_apart

  -- each accepted message is the frame of an attempt of one of the calls, or that of a task
  pub all_kinds : (k : ℕ) → AllByRecursion (λ (a : Accepted). ((asked : Asked) × is_call asked × (asked.operation ≡ a.operation) × (a.attempt ≤ 6) × (a.bytes ≡ frame_of asked (ids a.operation) a.attempt)) ⊎ ((d : ℕ) × (t : Task) × Asks clients d t × (t.number ≡ a.operation)))
      (orders_of p c vs sound.lawful k).accepted
  all_kinds k = all_sent p c vs sound.lawful (each_made p clients are true c vs es lost sound story settled)
      (λ (a : Accepted). ((asked : Asked) × is_call asked × (asked.operation ≡ a.operation) × (a.attempt ≤ 6) × (a.bytes ≡ frame_of asked (ids a.operation) a.attempt)) ⊎ ((d : ℕ) × (t : Task) × Asks clients d t × (t.number ≡ a.operation))) k
      (λ i n e h link. ⊎_elim (λ is. let x = message i n e h is in inr (i, x.task, x.asks, sym (send_number i n e h is)))
      (λ not_. let f = of_call_fits i n e h not_ in let w = f.4 in inl (w.0, w.1, w.2, f.3, w.3 ∙ ap (λ z. frame_of w.0 z e.heading.label.attempt) (sym f.1))) (either_bool (is_of_send e)))
