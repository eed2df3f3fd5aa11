-- A tick of any seat keeps the rule of the ids, and what each seat may do with them.
use Rattle.std.proofs.Common.{◌≡◌, ◌≢◌, ℕ, zero, suc, ◌+◌, ◌*◌, ◌<◌, ◌≤◌, ⊎_elim, Bool, true, false, cond, eqb, leb, List, [], ◌∷◌, ◌++◌, Some, None, length, length-set, get_or, get_or-set_same, get_or-set_other, set, refl, sym, ap, ◌∙◌, subst, arith}
use mathlib.Core.Logic.{dite}
use native.Mathlib.Decide.{ℕ_discrete}
use Rattle.std.specs.List.{AllByRecursion}
use mathlib.Core.Option.{Option, none, some, some-injective, some-ne-none}
use lib.ListN.{get_elem?}
use Rattle.atomic_table.proofs.Lists.{at_set, set_again}
use Rattle.sock_words.specs.declared.plain.Plan.{Plan}
use Rattle.seat_programs.specs.sock_io.specs.declared.link.Put.{Put}
use Rattle.seat_programs.specs.sock_io.specs.declared.link.Ready.{Ready}
use Rattle.seat_programs.specs.sock_model.specs.declared.chain.Heading.{Heading}
use Rattle.seat_programs.specs.sock_model.specs.declared.home.Home.{Home}
use Rattle.seat_programs.specs.sock_model.specs.declared.home.Home.TheVariants.{Empty, Link, Message}
use Rattle.seat_programs.specs.sock_model.specs.UnplacedMessages.{HeadedBytes}
use Rattle.seat_programs.specs.sock_model.specs.ChainLawReads.{letter_of, shown, message, link_home}
use Rattle.corr_core.specs.IdSlotWord.{parts, made_word, posted_word, unlocked_word, free_word}
use Rattle.corr_core.specs.IdSlotLaw.{LAST}
use Rattle.corr_core.specs.declared.marks.Plan.{Plan as IdPlan}
use Rattle.corr_core.specs.declared.marks.Hand.TheVariants as hands
use Rattle.corr_core.specs.declared.marks.Token.{Token}
use Rattle.corr_core.specs.declared.marks.Token.TheVariants.{Claimed, Locked, Leaving}
use Rattle.corr_core.specs.declared.marks.Note.TheVariants.{Tried, Queued, Saw, Attempt}
use Rattle.id_rule.specs.LawfulIdTable.{Lawful, all_words, tag_index, id_index, call_index, at_index, tokens_in, with_token, no_token, with_note}
use Rattle.id_rule.specs.IdPlays.{popped_view, advanced_view, with_hand}
use Rattle.seat_programs.specs.sock_message.specs.Asked.{Asked}
use Rattle.seat_programs.specs.Asides.{Step, Found, ClaimId, PutCall, MakeId, StoreCall, LoadCall, StoreAt, LoadAt, LockId, PostId, UnlockId, EndId, FreeId, TakeCall, TakeBytes, Taking, Bytes}
use Rattle.seat_programs.specs.LoopHeads.{Retry}
use Rattle.seat_programs.specs.Programs.{Program, Do, Say, Sent, TakeMessage, TakeHome, PutHome, PutBytes, AskReady, Write, Aside, Round, Keep, Retries}
use Rattle.seat_programs.specs.PostPrograms.{packed}
use Rattle.seat_programs.specs.SendAndWritePrograms.{block}
use Rattle.seat_programs.specs.LoopRounds.{round, first_step}
use Rattle.seat_programs.specs.Cores.{Calls, Core, SeatState, found_at, words_after, homes_after, hand_after, lies_at, first_of, others_of, link_place, resolved, still_waiting, waiting_at, next_step, with_seat}
use Rattle.seat_programs.specs.StepTables.{word_of, word_after}
use Rattle.seat_programs.specs.FoundAndChangedAside.{found_in, calls_after}
use Rattle.seat_programs.specs.Ticks.{Answer, OfPut, OfReady, Moment, fed, with_places, onto_first, taken, with_message, with_link, with_put, with_ready, with_found, step_with, tick_with, ticked}
use Rattle.seat_programs.specs.Explained.{AskedFits}
use Rattle.id_runs.specs.HeldIdTokens.{CallFits, AtFits, StoredFit, IdView, id_state, by_token, made_by, unlocked_by, ended_by, locked_by, id_row, MayId}
use Rattle.id_runs.specs.Goes.{FitsOwner, FitsRetryId, IdGoesOn, HandFits, HomesFit, CodesFit, SoundIds, FitsFirst, IsFittingIds}
use Rattle.id_runs.proofs.AsideStepsKeepRule.{keeps_ids, finds_ids}
use Rattle.id_runs.proofs.IdLoopRounds.{ids_round}
use Rattle.id_runs.proofs.IdPrograms.{block_goes, retry_goes}
use Rattle.id_runs.proofs.HeadingsAtHomes.{home_set, first_fits, others_fit, lies_fit, fed_fits, places_fit, hand_fits, homes_fit}
use Rattle.id_runs.proofs.OwnersStayIds.{steps_on, puts_fit, codes_fit}
use Rattle.sock_words.specs.PackedWords.{bit}

-- ## Shares stay

cond_share : (b : Bool) (u v w : IdView) → v.share ≡ u.share → w.share ≡ u.share → (cond b v w).share ≡ u.share
cond_share true u v w x y = x
cond_share false u v w x y = y

by_token_share : (ts : List (Token Asked)) (f : Token Asked → IdView) (u : IdView) → ((t : Token Asked) → (f t).share ≡ u.share) → (by_token ts f u).share ≡ u.share
by_token_share [] f u all = refl
by_token_share (t ∷ ts) f u all = all t

row_share : (q : IdPlan) (step : Step) (found : Found step) (c : Asked) (u : IdView) → (id_row q step found c u).share ≡ u.share
row_share q (ClaimId i) found c u = cond_share (eqb found 0) u (with_token i (Claimed 0 hands.Empty) u) (with_note i Tried u) refl refl
row_share q (PutCall i asked) found c u = by_token_share (tokens_in i u) (λ t. with_token i (with_hand t (hands.Full asked)) u) u (λ t. refl)
row_share q (MakeId i range) found c u = by_token_share (tokens_in i u) (made_by i range found u) u made_share
  where
    made_share : (t : Token Asked) → (made_by i range found u t).share ≡ u.share
    made_share (Claimed seen (hands.Full d)) = refl
    made_share (Claimed seen hands.Empty) = refl
    made_share (Claimed seen hands.Out) = refl
    made_share (Locked f rg att d o s h) = refl
    made_share Leaving = refl
row_share q (LoadCall o) found c u = cond_share (eqb found 0) u u (Rattle.id_rule.specs.LawfulIdTable.with_kept (Rattle.id_rule.specs.LawfulIdTable.call_index q o) false found u) refl refl
row_share q (LoadAt o) found c u = cond_share (eqb found 0) u u (Rattle.id_rule.specs.LawfulIdTable.with_kept (Rattle.id_rule.specs.LawfulIdTable.at_index q o) false found u) refl refl
row_share q (LockId i from) found c u = cond_share (eqb found from) u (locked_by i found c u) (with_note i (Saw found) u) refl refl
row_share q (PostId i from e) found c u = cond_share (eqb found from) u (cond (eqb (parts from).state 1) (locked_by i found c u) (with_note i (Queued (parts found).first e) u)) (with_note i (Saw found) u)
    (cond_share (eqb (parts from).state 1) u (locked_by i found c u) (with_note i (Queued (parts found).first e) u) refl refl) refl
row_share q (UnlockId i from advance) found c u = by_token_share (tokens_in i u) (unlocked_by i from (bit advance) found u) u unlocked_share
  where
    unlocked_share : (t : Token Asked) → (unlocked_by i from (bit advance) found u t).share ≡ u.share
    unlocked_share (Locked f rg att d o s h) = let x : IdView = popped_view i f rg ((parts from).attempt + bit advance) d (parts found).oldest (parts found).second u in
        let y : x.share ≡ u.share = cond_share (eqb (parts found).oldest 0) u (no_token i u) (with_token i (Locked f rg ((parts from).attempt + bit advance) d (parts found).second 0 (hands.Full d)) u) refl refl in
        cond_share (eqb found from) u (advanced_view i f (parts from).attempt ((parts from).attempt + bit advance) x) (with_token i (Locked f rg att d (parts found).oldest (parts found).second (hands.Full d)) u)
        (cond_share (eqb (parts from).attempt ((parts from).attempt + bit advance)) u x (with_note i (Attempt f ((parts from).attempt + bit advance)) x) y y) refl
    unlocked_share (Claimed seen h) = refl
    unlocked_share Leaving = refl
row_share q (EndId i) found c u = by_token_share (tokens_in i u) (ended_by i found u) u ended_share
  where
    ended_share : (t : Token Asked) → (ended_by i found u t).share ≡ u.share
    ended_share (Locked f rg att d o s h) = cond_share (leb ((parts found).first + (parts found).range) LAST) u (with_token i Leaving u) (no_token i u) refl refl
    ended_share (Claimed seen h) = refl
    ended_share Leaving = refl
row_share q (TakeCall i) found c u = by_token_share (tokens_in i u) (λ t. with_token i (with_hand t hands.Empty) u) u (λ t. refl)
row_share q _ found c u = refl

-- a home that shows a message has it
pub message_there : (x : Option (Option Home)) (letter : HeadedBytes) → letter_of (shown (λ (home : Home). home) x) ≡ some letter → x ≡ some (some (Message letter.0 letter.1))
message_there none letter e = absurd (some-ne-none letter (sym e))
message_there (some none) letter e = absurd (some-ne-none letter (sym e))
message_there (some (some Empty)) letter e = absurd (some-ne-none letter (sym e))
message_there (some (some (Link k took next done))) letter e = absurd (some-ne-none letter (sym e))
message_there (some (some (Message l cs))) letter e = ap (λ (z : HeadedBytes). some (some (Message z.0 z.1))) (some-injective (l, cs) letter e)

-- ## Retries that wait

pub fits_set : {A : Type 0} (P : List A → Type 0) (ws : List (List A)) (i : ℕ) (x : List A) → P x → ((j : ℕ) → P (get_or ws j [])) → (j : ℕ) → P (get_or (set ws i x) j [])
fits_set P [] i x px all j = all j
fits_set P (w ∷ ws) zero x px all zero = px
fits_set P (w ∷ ws) zero x px all (suc j) = all (suc j)
fits_set P (w ∷ ws) (suc i) x px all zero = all zero
fits_set P (w ∷ ws) (suc i) x px all (suc j) = fits_set P ws i x px (λ k. all (suc k)) j

all_more : {A : Type 0} (P : A → Type 0) (ws : List A) (r : A) → AllByRecursion P ws → P r → AllByRecursion P (ws ++ r ∷ [])
all_more P [] r all one = (one, tt)
all_more P (w ∷ ws) r all one = (all.0, all_more P ws r all.1 one)

module _ (p : Plan) (q : IdPlan) (narrow : q.slots ≤ 65536) (same : q.operations ≡ p.operations) where
  pub resolved_goes : (u : IdView) (ws : List Retry) (program : Program) → AllByRecursion (FitsRetryId q) ws → IdGoesOn p q u program → IdGoesOn p q u (next_step (resolved ws program))
  resolved_goes u ws (Say o outcome next) all g = resolved_goes u ws next all g
  resolved_goes u ws (Sent o next) all g = resolved_goes u ws next all g
  resolved_goes u ws (Keep r next) all g = resolved_goes u (ws ++ r ∷ []) next (all_more (FitsRetryId q) ws r all g.0) g.1
  resolved_goes u [] (Retries requests after) all g = resolved_goes u [] after tt (g.1 u g.0)
  resolved_goes u (r ∷ ws) (Retries requests after) all g = retry_goes p q narrow same u requests r (Retries requests after) g.0 all.0 (λ v free. (free, g.1))
  resolved_goes u ws _ all g = g

  pub still_fit : (u : IdView) (ws : List Retry) (program : Program) → AllByRecursion (FitsRetryId q) ws → IdGoesOn p q u program → AllByRecursion (FitsRetryId q) (still_waiting ws program)
  still_fit u ws (Say o outcome next) all g = still_fit u ws next all g
  still_fit u ws (Sent o next) all g = still_fit u ws next all g
  still_fit u ws (Keep r next) all g = still_fit u (ws ++ r ∷ []) next (all_more (FitsRetryId q) ws r all g.0) g.1
  still_fit u [] (Retries requests after) all g = still_fit u [] after tt (g.1 u g.0)
  still_fit u (r ∷ ws) (Retries requests after) all g = all.1
  still_fit u ws _ all g = all

  -- ## All seats

  module _ (c : Core) (us : List IdView) (sound : SoundIds p q c us) (i : ℕ) (seat : SeatState) (u : IdView) (at_seat : get_elem? c.seats i ≡ some seat) (at_view : get_elem? us i ≡ some u) where
    -- seat i has this program, and its view is w
    reseats : (a : Calls) (program : Program) (hand : List Home) (ws : List ℕ) (hs : List (Option Home)) (w : IdView) → HandFits (FitsOwner q) hand → CodesFit p ws → HomesFit (FitsOwner q) hs → a.plan ≡ q → a.waiting ≡ c.calls.waiting → Lawful q (id_state a (set us i w)) → w.share ≡ u.share
        → ((j : ℕ) (asked : Asked) → get_elem? a.homes j ≡ some (some (Some asked)) → AskedFits p asked) → StoredFit q a → IdGoesOn p q w program → SoundIds p q (with_seat i program hand ws hs (record c { calls = a })) (set us i w)
    reseats a program hand ws hs w hand_fit codes owners plan kept rule share homes stored go =
        let fit : AllByRecursion (FitsRetryId q) (waiting_at a.waiting i) = subst (λ (x : List (List Retry)). AllByRecursion (FitsRetryId q) (waiting_at x i)) (sym kept) (sound.waiting i) in
        let seat' : SeatState = record { program = next_step (resolved (waiting_at a.waiting i) program); hand = hand } in
        let fresh : IdGoesOn p q w seat'.program = resolved_goes w (waiting_at a.waiting i) program fit go in record {
          plan = plan;
          rule = rule;
          each = length-set us i w ∙ (sound.each ∙ sym (length-set c.seats i seat'));
          real = λ j v e. ⊎_elim (λ b. subst (λ (x : IdView). 0 < x.share) b.1 (omega (arith, share, sound.real i u at_view))) (λ b. sound.real j v b.1) (at_set us i j w v e);
          homes = homes;
          called = stored.0;
          placed = stored.1;
          owners = owners;
          codes = codes;
          in_hand = λ j s' e. ⊎_elim (λ b. subst (λ (x : SeatState). HandFits (FitsOwner q) x.hand) b.1 hand_fit) (λ b. sound.in_hand j s' b.1) (at_set c.seats i j seat' s' e);
          waiting = fits_set (AllByRecursion (FitsRetryId q)) a.waiting i (still_waiting (waiting_at a.waiting i) program) (still_fit w (waiting_at a.waiting i) program fit go)
              (subst (λ (x : List (List Retry)). (j : ℕ) → AllByRecursion (FitsRetryId q) (waiting_at x j)) (sym kept) sound.waiting);
          seats = λ j s' v at_s at_v. ⊎_elim
              (λ a. ⊎_elim (λ b. subst (λ (x : SeatState). IdGoesOn p q v x.program) a.1 (subst (λ y. IdGoesOn p q y seat'.program) b.1 fresh)) (λ b. absurd (b.0 a.0)) (at_set us i j w v at_v))
              (λ a. ⊎_elim (λ b. absurd (a.0 b.0)) (λ b. sound.seats j s' v a.1 b.1) (at_set us i j w v at_v))
              (at_set c.seats i j seat' s' at_s);
        }

    -- a step on the sockets
    abbrev pub After : Core → Type 0
    After c' = (us' : List IdView) × SoundIds p q c' us'

    on_sockets : (program : Program) (hand : List Home) (ws : List ℕ) (hs : List (Option Home)) → HandFits (FitsOwner q) hand → CodesFit p ws → HomesFit (FitsOwner q) hs → IdGoesOn p q u program → After (with_seat i program hand ws hs c)
    on_sockets program hand ws hs hand_fit codes owners go = (set us i u, reseats c.calls program hand ws hs u hand_fit codes owners sound.plan refl (subst (λ vs. Lawful q (id_state c.calls vs)) (sym (set_again us i u at_view)) sound.rule) refl sound.homes (sound.called, sound.placed) go)

    before : After c
    before = (us, sound)

    held : HandFits (FitsOwner q) seat.hand
    held = sound.in_hand i seat at_seat

    calls_homes : (step : Step) (found : Found step) → MayId p q u step → (j : ℕ) (asked : Asked) → get_elem? (calls_after step found c.calls).homes j ≡ some (some (Some asked)) → AskedFits p asked
    calls_homes (PutCall k b) found may j asked e = ⊎_elim (λ x. let z : Some b ≡ Some asked = some-injective (Some b) (Some asked) x.1 in let w : b ≡ asked = cc in subst (AskedFits p) w may.2) (λ x. sound.homes j asked x.1) (at_set c.calls.homes k j (some (Some b)) (some (Some asked)) e)
    calls_homes (TakeCall k) found may j asked e = ⊎_elim (λ x. let z : None ≡ Some asked = some-injective None (Some asked) x.1 in cc) (λ x. sound.homes j asked x.1) (at_set c.calls.homes k j (some None) (some (Some asked)) e)
    calls_homes (TakeBytes l room) (Bytes bytes) may j asked e = sound.homes j asked e
    calls_homes (TakeBytes l room) _ may j asked e = sound.homes j asked e
    calls_homes _ found may j asked e = sound.homes j asked e

    -- a word below those of the calls changes none of them
    low_stored : (x w : ℕ) → x < 2 * q.slots → StoredFit q (record c.calls { words = set c.calls.words x w })
    low_stored x w low = (
      (λ o inside. subst (λ n. n ≢ 0 → CallFits q n) (sym (get_or-set_other c.calls.words x (call_index q o) w 0 (λ e. omega (arith, low, e)))) (sound.called o inside)),
      (λ o inside. subst (λ n. n ≢ 0 → AtFits q n) (sym (get_or-set_other c.calls.words x (at_index q o) w 0 (λ e. omega (arith, low, e)))) (sound.placed o inside)),
    )

    sized : length c.calls.words ≡ all_words q
    sized = sound.rule.sized

    call_stored : (o id : ℕ) → o < q.operations → CallFits q id → StoredFit q (record c.calls { words = set c.calls.words (call_index q o) id })
    call_stored o id inside fits = (
      (λ o' inside'. dite (ℕ_discrete o' o)
          (λ e. λ _. subst (CallFits q) (sym (ap (λ x. get_or (set c.calls.words (call_index q o) id) (call_index q x) 0) e ∙ get_or-set_same c.calls.words (call_index q o) id 0 (omega (arith, sized, inside)))) fits)
          (λ ne. subst (λ n. n ≢ 0 → CallFits q n) (sym (get_or-set_other c.calls.words (call_index q o) (call_index q o') id 0 (λ e. ne (omega (arith, e))))) (sound.called o' inside'))),
      (λ o' inside'. subst (λ n. n ≢ 0 → AtFits q n) (sym (get_or-set_other c.calls.words (call_index q o) (at_index q o') id 0 (λ e. omega (arith, e)))) (sound.placed o' inside')),
    )

    at_stored : (o w : ℕ) → o < q.operations → AtFits q w → StoredFit q (record c.calls { words = set c.calls.words (at_index q o) w })
    at_stored o w inside fits = (
      (λ o' inside'. subst (λ n. n ≢ 0 → CallFits q n) (sym (get_or-set_other c.calls.words (at_index q o) (call_index q o') w 0 (λ e. omega (arith, e)))) (sound.called o' inside')),
      (λ o' inside'. dite (ℕ_discrete o' o)
          (λ e. λ _. subst (AtFits q) (sym (ap (λ x. get_or (set c.calls.words (at_index q o) w) (at_index q x) 0) e ∙ get_or-set_same c.calls.words (at_index q o) w 0 (omega (arith, sized, inside)))) fits)
          (λ ne. subst (λ n. n ≢ 0 → AtFits q n) (sym (get_or-set_other c.calls.words (at_index q o) (at_index q o') w 0 (λ e. ne (omega (arith, e))))) (sound.placed o' inside'))),
    )

    calls_stored : (step : Step) (found : Found step) → MayId p q u step → StoredFit q (calls_after step found c.calls)
    calls_stored (ClaimId k) found may = low_stored (tag_index k) 1 (omega (arith, may))
    calls_stored (MakeId k range) found may = let inside = may.0 in low_stored (id_index k) (packed (made_word (parts found).first range)) (omega (arith, inside))
    calls_stored (StoreCall o id) found may = subst (λ (r : IdPlan). StoredFit q (record c.calls { words = set c.calls.words (call_index r o) id })) (sym sound.plan) (call_stored o id may.0 may.2)
    calls_stored (StoreAt o w) found may = subst (λ (r : IdPlan). StoredFit q (record c.calls { words = set c.calls.words (at_index r o) w })) (sym sound.plan) (at_stored o w may.0 may.2)
    calls_stored (LockId k from) found may = let inside = may.0 in low_stored (id_index k) (cond (eqb found from) (packed (posted_word (parts from) 0)) found) (omega (arith, inside))
    calls_stored (PostId k from e) found may = let inside = may.0 in low_stored (id_index k) (cond (eqb found from) (packed (posted_word (parts from) e)) found) (omega (arith, inside))
    calls_stored (UnlockId k from advance) found may = let inside = may.0 in low_stored (id_index k) (cond (eqb found from) (packed (unlocked_word (parts from) (bit advance))) found) (omega (arith, inside))
    calls_stored (EndId k) found may = let inside = may.0 in low_stored (id_index k) (packed (free_word ((parts found).first + (parts found).range))) (omega (arith, inside))
    calls_stored (FreeId k) found may = let inside = may.0 in low_stored (tag_index k) 0 (omega (arith, inside))
    calls_stored (TakeBytes l room) (Bytes bytes) may = (sound.called, sound.placed)
    calls_stored (TakeBytes l room) _ may = (sound.called, sound.placed)
    calls_stored _ found may = (sound.called, sound.placed)

    calls_plan : (step : Step) (found : Found step) → ((calls_after step found c.calls).plan ≡ c.calls.plan) × ((calls_after step found c.calls).waiting ≡ c.calls.waiting)
    calls_plan (TakeBytes l room) (Bytes bytes) = (refl, refl)
    calls_plan (TakeBytes l room) _ = (refl, refl)
    calls_plan _ found = (refl, refl)

    on_ids : (step : Step) (next : Found step → Program) (t : Option Taking) → IdGoesOn p q u (Aside step next) → (x : Option (Found step)) → found_in step c.calls t ≡ x → After (with_found p i seat c step x next)
    on_ids step next t go none is = before
    on_ids step next t go (some found) is = let r = keeps_ids p q c.calls sound.plan us sound.rule i u at_view (sound.real i u at_view) step t found is go.0 in let w : IdView = id_row q step found r.0 u in let k = calls_plan step found in (
      set us i w,
      reseats (calls_after step found c.calls) (next found) seat.hand c.words c.homes (id_row q step found r.0 u) held sound.codes sound.owners (k.0 ∙ sound.plan) k.1 r.1 (row_share q step found r.0 u) (calls_homes step found go.0) (calls_stored step found go.0)
          (go.1 found r.0 (finds_ids p q c.calls sound.plan us sound.rule i u at_view (sound.real i u at_view) (sound.called, sound.placed) sound.homes step t found is go.0)),
    )

    by_letter : (r : ℕ) (next : Heading → List ℕ → Program) → IdGoesOn p q u (TakeMessage r next) → (x : Option HeadedBytes) → message (λ (h : Home). h) c.homes r ≡ x → After (with_message p i seat c r x (λ letter. next letter.0 letter.1))
    by_letter r next go none is = before
    by_letter r next go (some letter) is = on_sockets (next letter.0 letter.1) seat.hand c.words (set c.homes r none) held sound.codes (home_set (FitsOwner q) c.homes r none (λ y e. absurd (some-ne-none y (sym e))) sound.owners)
        (go letter.0 letter.1 (sound.owners r (Message letter.0 letter.1) (message_there (get_elem? c.homes r) letter is)))

    by_link : (k : ℕ) (next : ℕ → Program) → IdGoesOn p q u (TakeHome k next) → (x : Option (List ℕ × ℕ)) → After (with_link p i seat c k x next)
    by_link k next go none = before
    by_link k next go (some home) = on_sockets (next home.1) (lies_at c.homes (link_place p k) ++ seat.hand) c.words (set c.homes (link_place p k) none) (lies_fit (FitsOwner q) c.homes (link_place p k) seat.hand sound.owners held) sound.codes (home_set (FitsOwner q) c.homes (link_place p k) none (λ y e. absurd (some-ne-none y (sym e))) sound.owners) (go home.1)

    by_put : (bytes : List ℕ) (next : Put → Program) → ((answer : Put) → IdGoesOn p q u (next answer)) → (answer : Answer) → After (with_put p i seat c bytes answer next)
    by_put bytes next go (OfPut answer) = on_sockets (next answer) (onto_first (fed bytes answer) seat.hand) c.words c.homes (fed_fits (FitsOwner q) bytes answer seat.hand held) sound.codes sound.owners (go answer)
    by_put bytes next go _ = before

    by_ready : (next : Ready → Program) → ((answer : Ready) → IdGoesOn p q u (next answer)) → (answer : Answer) → After (with_ready p i seat c answer next)
    by_ready next go (OfReady answer) = on_sockets (next answer) seat.hand c.words c.homes held sound.codes sound.owners (go answer)
    by_ready next go _ = before

    of_first : (answer : Answer) (program : Program) → IdGoesOn p q u program → FitsFirst p c program → After (step_with p i seat c answer program)
    of_first answer (Do call next) go fits = let found : ℕ = found_at c.words (word_of p call) in let may = steps_on p q u call next go in
        on_sockets (next found) (hand_after p call c.homes seat.hand) (words_after c.words (word_of p call) (word_after call found)) (homes_after p call seat.hand c.homes)
        (hand_fits (FitsOwner q) p call c.homes seat.hand sound.owners held) (codes_fit p q call may.0 c.words sound.codes) (homes_fit (FitsOwner q) p call (puts_fit q call may.0) c.homes seat.hand sound.owners held) (may.1 found fits)
    of_first answer (TakeMessage r next) go fits = by_letter r next go (message (λ (h : Home). h) c.homes r) refl
    of_first answer (TakeHome k next) go fits = by_link k next go (link_home (λ (h : Home). h) p c.homes k)
    of_first answer (PutHome k n after) go fits = on_sockets after (others_of seat.hand) c.words (set c.homes (link_place p k) (first_of (onto_first (with_places n) seat.hand))) (others_fit (FitsOwner q) seat.hand held) sound.codes
        (home_set (FitsOwner q) c.homes (link_place p k) (first_of (onto_first (with_places n) seat.hand)) (first_fits (FitsOwner q) (onto_first (with_places n) seat.hand) (places_fit (FitsOwner q) n seat.hand held)) sound.owners) go
    of_first answer (PutBytes k asked bytes next) go fits = by_put bytes next go answer
    of_first answer (AskReady k next) go fits = by_ready next go answer
    of_first answer (Aside step next) go fits = on_ids step next (taken answer) go (found_in step c.calls (taken answer)) refl
    of_first answer _ go fits = before

    any_step : (answer : Answer) (program : Program) → IdGoesOn p q u program → FitsFirst p c (first_step program) → After (tick_with p i seat c answer program)
    any_step answer (Write w after) go fits = of_first answer (block w after) (block_goes p q narrow u w after go) fits
    any_step answer (Round head next) go fits = of_first answer (round head next) (ids_round p q u head next go) fits
    any_step answer (Do call next) go fits = of_first answer (Do call next) go fits
    any_step answer (TakeMessage r next) go fits = of_first answer (TakeMessage r next) go fits
    any_step answer (TakeHome k next) go fits = of_first answer (TakeHome k next) go fits
    any_step answer (PutHome k n after) go fits = of_first answer (PutHome k n after) go fits
    any_step answer (PutBytes k asked bytes next) go fits = of_first answer (PutBytes k asked bytes next) go fits
    any_step answer (AskReady k next) go fits = of_first answer (AskReady k next) go fits
    any_step answer (Aside step next) go fits = of_first answer (Aside step next) go fits
    any_step answer _ go fits = before

  -- of two lists of one length each place of one is a place of the other
  beside : {A B : Type 0} (l : List A) (m : List B) (i : ℕ) (a : A) → length m ≡ length l → get_elem? l i ≡ some a → get_elem? m i ≡ none → ⊥
  beside [] m i a e at none_ = some-ne-none a (sym at)
  beside (x ∷ xs) [] i a e at none_ = omega (arith, e)
  beside (x ∷ xs) (y ∷ ys) zero a e at none_ = some-ne-none y none_
  beside (x ∷ xs) (y ∷ ys) (suc i) a e at none_ = beside xs ys i a (omega (arith, e)) at none_

  -- a tick of any seat keeps the ids sound, where the words of the sockets are as they should be
  pub ids_ticks : (c : Core) (us : List IdView) (m : Moment) → SoundIds p q c us → IsFittingIds p c m → (us' : List IdView) × SoundIds p q (ticked p c m) us'
  ids_ticks c us m sound fitting = by_seat (get_elem? c.seats m.seat) refl
    where
      by_view : (seat : SeatState) → get_elem? c.seats m.seat ≡ some seat → (x : Option IdView) → get_elem? us m.seat ≡ x → (us' : List IdView) × SoundIds p q (tick_with p m.seat seat c m.answer seat.program) us'
      by_view seat at_seat none e = absurd (beside c.seats us m.seat seat sound.each at_seat e)
      by_view seat at_seat (some u) e = any_step c us sound m.seat seat u at_seat e m.answer seat.program (sound.seats m.seat seat u at_seat e) (fitting seat at_seat)

      by_seat : (x : Option SeatState) → get_elem? c.seats m.seat ≡ x → (us' : List IdView) × SoundIds p q (elim x as (λ o. Core) [ none ↦ c | some seat ↦ tick_with p m.seat seat c m.answer seat.program ]) us'
      by_seat none e = (us, sound)
      by_seat (some seat) e = by_view seat e (get_elem? us m.seat) refl
