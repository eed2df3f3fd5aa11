-- Each tick keeps that an error of an attempt is posted only where nobody tries the attempt any more, and so that nobody decides on an error that another seat posted, but for one for the whole call.
use Rattle.std.proofs.Common.{◌≡◌, ◌≢◌, ℕ, ◌+◌, ◌*◌, ◌<◌, ◌≤◌, ◌⊎◌, inl, inr, ⊎_elim, not, ◌&&◌, Bool, true, false, cond, eqb, eqb-true, eq-eqb, List, [], ◌∷◌, ◌++◌, length-set, get_or, get_or-set_same, get_or-set_other, set, refl, sym, ap, ◌∙◌, subst, arith}
use Rattle.std.specs.List.{AllByRecursion}
use Rattle.std.specs.Prelude as std
use mathlib.Core.Logic.{dite}
use native.Mathlib.Decide.{ℕ_discrete}
use mathlib.Core.Option.{Option, some, none, some-injective}
use lib.ListN.{get_elem?}
use Rattle.atomic_table.proofs.Lists.{at_set}
use Rattle.sock_words.specs.declared.plain.Plan.{Plan}
use Rattle.sock_words.specs.PackedWords as words
use Rattle.sock_words.specs.PackedWords.{at_word_first, at_word_slot, at_word_attempt, call_id, id_slot, id_first, bit}
use Rattle.sock_io.specs.declared.link.Put.{Put}
use Rattle.sock_io.specs.declared.link.Ready.{Ready}
use Rattle.sock_model.specs.declared.chain.Heading.{Heading}
use Rattle.sock_model.specs.declared.home.Home.{Home}
use Rattle.sock_model.specs.declared.home.Home.TheVariants.{Message}
use Rattle.sock_model.specs.UnplacedMessages.{HeadedBytes}
use Rattle.sock_model.specs.ChainLawReads.{message, link_home}
use Rattle.sent_once.specs.Below.slot_steps.proofs.SlotWeightSums.{term_le, total-append}
use Rattle.corr_core.specs.IdSlotWord.{Parts, parts, error_of, attempt_of, made_word, posted_word, unlocked_word, free_word}
use Rattle.corr_core.specs.declared.marks.Plan.{Plan as IdPlan}
use Rattle.corr_core.specs.EndedByRangeOrAttempt.{WHOLE}
use Rattle.seat_programs.specs.id_rule.specs.LawfulIdTable.{all_words, tag_index, id_index, call_index, at_index}
use Rattle.sent_once.specs.Below.id_runs.specs.HeldIdTokens.{IdView, MayId}
use Rattle.sent_once.specs.Below.id_runs.specs.Goes.{FitsFirst, FindsId, FitsRetryId, IdGoesOn, SoundIds, IsFittingIds}
use Rattle.sent_once.specs.Below.id_runs.proofs.AsideStepsKeepRule.{finds_ids}
use Rattle.seat_programs.specs.Asides.{Step, Found, ClaimId, PutCall, MakeId, StoreCall, LoadCall, StoreAt, LoadAt, LoadIdWord, LockId, PostId, UnlockId, EndId, FreeId, TakeCall, TakeBytes, Taking, Bytes}
use Rattle.seat_programs.specs.FoundAndChangedAside.{found_in, calls_after}
use Rattle.seat_programs.specs.TableSteps.{TableStep, OnMessage, PutMessage}
use Rattle.seat_programs.specs.LoopHeads.{Retry, Decides}
use Rattle.seat_programs.specs.PostPrograms.{packed, is_stale}
use Rattle.seat_programs.specs.Programs.{Program, Do, Say, Sent, TakeMessage, TakeHome, PutHome, PutBytes, AskReady, Write, Aside, Round, Keep, Retries}
use Rattle.seat_programs.specs.Cores.{Calls, Core, SeatState, found_at, words_after, homes_after, hand_after, lies_at, first_of, others_of, link_place, resolved, still_waiting, waiting_at, next_step, with_seat}
use Rattle.seat_programs.specs.StepTables.{word_of, word_after}
use Rattle.seat_programs.specs.Ticks.{Answer, OfPut, OfReady, Moment, fed, with_places, onto_first, taken, with_message, with_link, with_put, with_ready, with_found, step_with, tick_with, ticked}
use Rattle.sent_once.specs.Below.programs_allowed.specs.program_steps.proofs.TickCases.{elem_there, ticks_first, calls_waiting}
use Rattle.sent_once.specs.Below.call_stories.specs.Decided.{posted_by, Decision, decision_in, decided_at}
use Rattle.sent_once.specs.Below.call_stories.specs.PostsOfRun.{Post, posts_by, posted_with, posted_at}
use Rattle.sent_once.specs.Below.owing_ticks.proofs.OwingTicks.{message_there}
use Rattle.sent_once.specs.accept_counts.specs.AttemptCounts.{pair_of, of_retry, with_waiting, word_of_id, WasMade, WasNow}
use Rattle.sent_once.specs.accept_counts.proofs.IdWordsGoForward.{made_on, finds_label, words_forward, makes_new, advances_new}
use Rattle.sent_once.specs.accept_counts.proofs.SeatFacts.{ids_first}
use Rattle.sent_once.specs.accept_counts.proofs.TicksKeepAttemptLaw.{few_more, few_of, pair_now, untried, waiting_set, once_more, old_or_new, pairs_set}
use Rattle.sent_once.specs.Below.story_ticks.proofs.SaidBeforeNextStep.{AreFewTries as AreTries}
use Rattle.sent_once.specs.Below.label_runs.proofs.LoopsOfKnownSeats.{id_back}
use Rattle.sent_once.specs.Below.id_runs.specs.Goes.{HandFits, HomesFit}
use Rattle.sent_once.specs.Below.id_runs.proofs.HeadingsAtHomes.{PutFits, hand_more, home_more, home_set, home_away, first_fits, others_fit, lies_fit, fed_fits, places_fit, hand_fits, homes_fit}
use Rattle.own_decisions.proofs.OwnDecisionsStands.{Stand, Calm, Trying, Past, Posted, Eases, MayPut, MayPost, MayAside, Stowing, unlocked_stand, Aims}
use Rattle.own_decisions.proofs.OwnDecisionsLoops.{aims_round}
use Rattle.own_decisions.proofs.OwnDecisionsPrograms.{block_goes, retry_goes}
use Rattle.sent_once.specs.Below.owing_ticks.proofs.OwingRuns.{same_first}
use Rattle.seat_programs.specs.LoopRounds.{first_step}
use Rattle.sent_once.specs.Below.outcome_stories.specs.OperationStories.{In}
use Rattle.sock_words.specs.Totals.{total}

-- ## Attempts that are tried

-- 1 where the seat tries attempt n of the call with this id
abbrev pub of_stand : ℕ → ℕ → Stand → ℕ
of_stand id n (Trying i m) = pair_of id n i m
of_stand id n other = 0

abbrev pub tries_of : ℕ → ℕ → Core → List Stand → ℕ
tries_of = with_waiting of_stand

-- the attempt was made, and nobody tries it any more
abbrev pub IsPast : IdPlan → Core → List Stand → ℕ → ℕ → Type 0
IsPast q c ss id n = (n ≤ 6) × (tries_of id n c ss ≡ 0) × WasMade q c.calls.words id n

-- P tells which attempts are past, and M which errors the seat posted
abbrev pub StandFits : (ℕ → ℕ → Type 0) → (Post → Type 0) → Stand → Type 0
StandFits P M Calm = Unit {0}
StandFits P M (Trying id n) = n ≤ 6
StandFits P M (Past id n) = P id n
StandFits P M (Posted id e) = (attempt_of e ≡ WHOLE) ⊎ M (record { id = id; error = e })

abbrev pub AtsFit : IdPlan → (ℕ → ℕ → Type 0) → List ℕ → Type 0
AtsFit q P ws = (o : ℕ) → o < q.operations → get_or ws (at_index q o) 0 ≢ 0 → P (call_id (at_word_slot (get_or ws (at_index q o) 0)) (at_word_first (get_or ws (at_index q o) 0))) (at_word_attempt (get_or ws (at_index q o) 0))

abbrev pub HeadFits : (ℕ → ℕ → Type 0) → Heading → Type 0
HeadFits P heading = heading.owner ≢ 0 → P heading.owner heading.label.attempt

abbrev pub PostFits : (ℕ → ℕ → Type 0) → Post → Type 0
PostFits P x = (attempt_of x.error ≡ WHOLE) ⊎ P x.id (attempt_of x.error)

-- Taken tells which errors ids took so far, and Mine which of them each seat posted
pub record AimLaw (q : IdPlan) (Taken : Post → Type 0) (Mine : ℕ → Post → Type 0) (c : Core) (ss : List Stand) : Type 0 where
  pub once : (id n : ℕ) → tries_of id n c ss ≤ 1
  pub made : (id n : ℕ) → 0 < tries_of id n c ss → WasMade q c.calls.words id n
  pub each : std.length ss ≡ std.length c.seats
  pub programs : (j : ℕ) (seat : SeatState) (s : Stand) → get_elem? c.seats j ≡ some seat → get_elem? ss j ≡ some s → Aims s seat.program
  pub stands : (j : ℕ) (s : Stand) → get_elem? ss j ≡ some s → StandFits (IsPast q c ss) (Mine j) s
  -- each attempt whose at word is stored, whose message was put, or for which an error was posted, is past
  pub ats : AtsFit q (IsPast q c ss) c.calls.words
  pub homes : HomesFit (HeadFits (IsPast q c ss)) c.homes
  pub hands : (j : ℕ) (seat : SeatState) → get_elem? c.seats j ≡ some seat → HandFits (HeadFits (IsPast q c ss)) seat.hand
  pub posts : (x : Post) → Taken x → PostFits (IsPast q c ss) x

-- the oldest error that waits in slot k is for the whole call, or its id took it, and for each attempt that was given up the id took one
abbrev pub QueuedAt : (Post → Type 0) → ℕ → Parts → Type 0
QueuedAt Taken k w = (w.oldest ≢ 0 → (attempt_of w.oldest ≡ WHOLE) ⊎ Taken (record { id = call_id k w.first; error = w.oldest }))
    × ((n : ℕ) → n < w.attempt → (code : ℕ) × Taken (record { id = call_id k w.first; error = error_of code n }))

abbrev pub AreQueued : IdPlan → (Post → Type 0) → Core → Type 0
AreQueued q Taken c = (k : ℕ) → k < q.slots → 0 < (word_of_id c.calls.words k).state → QueuedAt Taken k (word_of_id c.calls.words k)

-- ## More is known

pub stand_more : (P Q : ℕ → ℕ → Type 0) (M N : Post → Type 0) → ((id n : ℕ) → P id n → Q id n) → ((x : Post) → M x → N x) → (s : Stand) → StandFits P M s → StandFits Q N s
stand_more P Q M N f g Calm fit = tt
stand_more P Q M N f g (Trying id n) fit = fit
stand_more P Q M N f g (Past id n) fit = f id n fit
stand_more P Q M N f g (Posted id e) (inl whole) = inl whole
stand_more P Q M N f g (Posted id e) (inr mine) = inr (g (record { id = id; error = e }) mine)

post_more : (P Q : ℕ → ℕ → Type 0) → ((id n : ℕ) → P id n → Q id n) → (x : Post) → PostFits P x → PostFits Q x
post_more P Q f x (inl whole) = inl whole
post_more P Q f x (inr past) = inr (f x.id (attempt_of x.error) past)

head_more : (P Q : ℕ → ℕ → Type 0) → ((id n : ℕ) → P id n → Q id n) → (h : Heading) → HeadFits P h → HeadFits Q h
head_more P Q f h fit some_ = f h.owner h.label.attempt (fit some_)

pub law_more : (q : IdPlan) (Taken Taken' : Post → Type 0) (Mine Mine' : ℕ → Post → Type 0) (c : Core) (ss : List Stand) → ((x : Post) → Taken' x → Taken x) → ((j : ℕ) (x : Post) → Mine j x → Mine' j x) → AimLaw q Taken Mine c ss → AimLaw q Taken' Mine' c ss
law_more q Taken Taken' Mine Mine' c ss f g law = record {
  once = law.once;
  made = law.made;
  each = law.each;
  programs = law.programs;
  stands = λ j s at. stand_more (IsPast q c ss) (IsPast q c ss) (Mine j) (Mine' j) (λ id n z. z) (g j) s (law.stands j s at);
  ats = law.ats;
  homes = law.homes;
  hands = law.hands;
  posts = λ x there. law.posts x (f x there);
}

pub pair_self : (id n : ℕ) → pair_of id n id n ≡ 1
pair_self id n = ap (λ b. cond b (cond (eqb n n) 1 0) 0) (eq-eqb id id refl) ∙ ap (λ b. cond b 1 0) (eq-eqb n n refl)

module _ (f s k n : ℕ) (first : f < 4294967296) (slot : s < 65536) (link : k < 65535) (few : n ≤ 6) where
  word_attempt : at_word_attempt (words.at_word f s k n) ≡ n
  word_attempt = omega (arith, first, slot, link, few)

  word_slot : at_word_slot (words.at_word f s k n) ≡ s
  word_slot = omega (arith, first, slot, link, few)

  word_first : at_word_first (words.at_word f s k n) ≡ f
  word_first = omega (arith, first, slot, link, few)

-- ## Retries that are kept and taken up

record Resolved (s : Stand) (ws : List Retry) (x : Program) : Type 0 where
  pub stand : Stand
  pub aims : Aims stand (next_step (resolved ws x))
  pub fewer : (id n : ℕ) → of_stand id n stand + total (of_retry id n) (still_waiting ws x) ≤ of_stand id n s + total (of_retry id n) ws
  pub is : (stand ≡ s) ⊎ ((stand ≡ Calm) ⊎ ((id n : ℕ) × (stand ≡ Trying id n) × (n ≤ 6)))

stays : (s : Stand) (ws : List Retry) (x : Program) → Aims s (next_step (resolved ws x)) → still_waiting ws x ≡ ws → Resolved s ws x
stays s ws x g e = record { stand = s; aims = g; fewer = λ id n. (let z : total (of_retry id n) (still_waiting ws x) ≡ total (of_retry id n) ws = ap (total (of_retry id n)) e in omega (arith, z)); is = inl refl }

resolves : (s : Stand) (ws : List Retry) (x : Program) → AreTries ws → Aims s x → Resolved s ws x
resolves s ws (Say o outcome next) few g = let r = resolves s ws next few g in record { stand = r.stand; aims = r.aims; fewer = r.fewer; is = r.is }
resolves s ws (Sent o next) few g = let r = resolves s ws next few g in record { stand = r.stand; aims = r.aims; fewer = r.fewer; is = r.is }
resolves s ws (Keep k next) few g = let r = resolves Calm (ws ++ k ∷ []) next (few_more ws k few g.1) g.2 in record {
  stand = r.stand;
  aims = r.aims;
  fewer = λ id n. (let a = r.fewer id n in let b : total (of_retry id n) (ws ++ k ∷ []) ≡ total (of_retry id n) ws + (of_retry id n k + 0) = total-append (of_retry id n) ws (k ∷ []) in let e : of_stand id n s ≡ of_retry id n k = ap (of_stand id n) g.0 in omega (arith, a, b, e));
  is = ⊎_elim (λ e. inr (inl e)) (λ e. inr e) r.is;
}
resolves s [] (Retries requests after) few g = let r = resolves Calm [] after tt g in record { stand = r.stand; aims = r.aims; fewer = λ id n. (let a = r.fewer id n in omega (arith, a)); is = ⊎_elim (λ e. inr (inl e)) (λ e. inr e) r.is }
resolves s (k ∷ ws) (Retries requests after) few g = record { stand = Trying k.id k.attempt; aims = retry_goes requests k.id k.attempt (Retries requests after) few.0 g; fewer = λ id n. omega arith; is = inr (inr (k.id, k.attempt, refl, few.0)) }
resolves s ws program few g = stays s ws program g refl

pub aims_first : (s : Stand) (program : Program) → Aims s program → Aims s (first_step program)
aims_first s (Write w after) g = block_goes s w after g
aims_first s (Round head next) g = aims_round s head next g
aims_first s _ g = g

eased_count : (id n : ℕ) (s u : Stand) → Eases s u → of_stand id n u ≤ of_stand id n s
eased_count id n s u (inl e) = let z : of_stand id n u ≡ of_stand id n s = ap (of_stand id n) e in omega (arith, z)
eased_count id n s u (inr (inl e)) = let z : of_stand id n u ≡ 0 = ap (of_stand id n) e in omega (arith, z)
eased_count id n s u (inr (inr e)) = let z : of_stand id n u ≡ 0 = ap (of_stand id n) e.3 in omega (arith, z)

-- an error that isn't stale is for the whole call, or of the current attempt
fresh_error : (e : ℕ) (w : Parts) → is_stale e w ≡ false → (attempt_of e ≡ WHOLE) ⊎ (attempt_of e ≡ w.attempt)
fresh_error e w fresh = by (eqb (attempt_of e) WHOLE) (eqb (attempt_of e) w.attempt) refl refl fresh
  where
    by : (x y : Bool) → eqb (attempt_of e) WHOLE ≡ x → eqb (attempt_of e) w.attempt ≡ y → (not x && not y) ≡ false → (attempt_of e ≡ WHOLE) ⊎ (attempt_of e ≡ w.attempt)
    by true y one two z = inl (eqb-true (attempt_of e) WHOLE one)
    by false true one two z = inr (eqb-true (attempt_of e) w.attempt two)
    by false false one two z = absurd (cc)

-- a step that stores no at word
abbrev StoresNone : Step → Type 0
StoresNone (StoreAt o w) = ⊥
StoresNone other = Unit {0}

-- ## A tick

module _ (p : Plan) (q : IdPlan) (narrow : q.slots ≤ 65536) (Taken : Post → Type 0) (Mine : ℕ → Post → Type 0) (c : Core) (ss : List Stand) (law : AimLaw q Taken Mine c ss) (us : List IdView) (ids : SoundIds p q c us) where
  module _ (i : ℕ) (seat : SeatState) (s : Stand) (at_seat : get_elem? c.seats i ≡ some seat) (at_stand : get_elem? ss i ≡ some s) where
    -- with the errors that the seat posts in the tick
    abbrev pub New : List Post → Post → Type 0
    New L x = Taken x ⊎ In x L

    abbrev pub Own : List Post → ℕ → Post → Type 0
    Own L j x = Mine j x ⊎ ((j ≡ i) × In x L)

    abbrev pub Result : List Post → Core → Type 0
    Result L d = (xs : List Stand) × AimLaw q (New L) (Own L) d xs

    -- past, or given up by this seat, which is so behind the step
    abbrev Behind : Stand → ℕ → ℕ → Type 0
    Behind u id n = IsPast q c ss id n ⊎ ((s ≡ Trying id n) × (of_stand id n u ≡ 0))

    -- the seat goes on with this program and stand; these attempts are made by the step
    record Goes (L : List Post) (a : Calls) (x : Program) (hand : List Home) (hs : List (Option Home)) (u : Stand) : Type 0 where
      pub aims : Aims u x
      pub kept : a.waiting ≡ c.calls.waiting
      pub words : (id n : ℕ) → WasMade q c.calls.words id n → WasMade q a.words id n
      pub new : ℕ → ℕ → ℕ
      pub fewer : (id n : ℕ) → of_stand id n u ≤ of_stand id n s + new id n
      pub fresh : (id n : ℕ) → 0 < new id n → (new id n ≤ 1) × (tries_of id n c ss ≡ 0) × WasNow q a.words id n × (WasMade q c.calls.words id n → ⊥)
      pub stand : StandFits (Behind u) (Own L i) u
      pub ats : AtsFit q (Behind u) a.words
      pub homes : HomesFit (HeadFits (Behind u)) hs
      pub hands : HandFits (HeadFits (Behind u)) hand
      pub posts : (y : Post) → In y L → PostFits (Behind u) y

    tried : (id n : ℕ) → s ≡ Trying id n → 0 < tries_of id n c ss
    tried id n e = let here : of_stand id n s ≡ 1 = ap (of_stand id n) e ∙ pair_self id n in let some_ = term_le (of_stand id n) ss i s at_stand in omega (arith, here, some_)

    module _ (L : List Post) (a : Calls) (x : Program) (hand : List Home) (ws : List ℕ) (hs : List (Option Home)) (u : Stand) (g : Goes L a x hand hs u) where
      few : AreTries (waiting_at a.waiting i)
      few = few_of q (waiting_at a.waiting i) (subst (λ (l : List (List Retry)). AllByRecursion (FitsRetryId q) (waiting_at l i)) (sym g.kept) (ids.waiting i))

      abbrev r : Resolved u (waiting_at a.waiting i) x
      r = resolves u (waiting_at a.waiting i) x few g.aims

      abbrev next_seat : SeatState
      next_seat = record { program = next_step (resolved (waiting_at a.waiting i) x); hand = hand }

      abbrev d : Core
      d = with_seat i x hand ws hs (record c { calls = a })

      near : (id n : ℕ) → tries_of id n (with_seat i x hand ws hs (record c { calls = a })) (set ss i r.stand) + of_stand id n s ≤ tries_of id n c ss + of_stand id n u
      near id n = waiting_set (of_stand id n) (of_retry id n) ss i s r.stand u a.waiting c.calls.waiting (still_waiting (waiting_at a.waiting i) x) at_stand g.kept (r.fewer id n)

      bound : (id n : ℕ) → tries_of id n (with_seat i x hand ws hs (record c { calls = a })) (set ss i r.stand) ≤ tries_of id n c ss + g.new id n
      bound id n = let b = near id n in let f = g.fewer id n in omega (arith, b, f)

      still : (id n : ℕ) → IsPast q c ss id n → IsPast q (with_seat i x hand ws hs (record c { calls = a })) (set ss i r.stand) id n
      still id n z = (
        z.0,
        dite (ℕ_discrete (g.new id n) 0) (λ e. let b = bound id n in let y = z.1 in omega (arith, b, e, y)) (λ ne. absurd ((g.fresh id n (omega (arith, ne))).3 z.2)),
        g.words id n z.2,
      )

      given_up : (id n : ℕ) → s ≡ Trying id n → of_stand id n u ≡ 0 → IsPast q (with_seat i x hand ws hs (record c { calls = a })) (set ss i r.stand) id n
      given_up id n is none_ = (
        subst (StandFits (IsPast q c ss) (Mine i)) is (law.stands i s at_stand),
        (let b = near id n in let one = law.once id n in let mine : of_stand id n s ≡ 1 = ap (of_stand id n) is ∙ pair_self id n in omega (arith, b, one, mine, none_)),
        g.words id n (law.made id n (tried id n is)),
      )

      behind : (id n : ℕ) → Behind u id n → IsPast q (with_seat i x hand ws hs (record c { calls = a })) (set ss i r.stand) id n
      behind id n (inl z) = still id n z
      behind id n (inr z) = given_up id n z.0 z.1

      stand_now : StandFits (IsPast q (with_seat i x hand ws hs (record c { calls = a })) (set ss i r.stand)) (Own L i) r.stand
      stand_now = ⊎_elim
          (λ e. subst (StandFits (IsPast q (with_seat i x hand ws hs (record c { calls = a })) (set ss i r.stand)) (Own L i)) (sym e)
          (stand_more (Behind u) (IsPast q (with_seat i x hand ws hs (record c { calls = a })) (set ss i r.stand)) (Own L i) (Own L i) behind (λ y m. m) u g.stand))
          (λ e. ⊎_elim (λ z. subst (StandFits (IsPast q (with_seat i x hand ws hs (record c { calls = a })) (set ss i r.stand)) (Own L i)) (sym z) tt)
          (λ z. subst (StandFits (IsPast q (with_seat i x hand ws hs (record c { calls = a })) (set ss i r.stand)) (Own L i)) (sym z.2) z.3) e) r.is

      goes_on : Result L (with_seat i x hand ws hs (record c { calls = a }))
      goes_on = (
        set ss i r.stand,
        record {
          once = λ id n. once_more _ (g.new id n) _ (bound id n) (law.once id n) (λ more. let f = g.fresh id n more in (f.0, f.1));
          made = λ id n some_. old_or_new _ (g.new id n) _ (bound id n) (λ there. g.words id n (law.made id n there)) (λ more. let f = g.fresh id n more in (f.2.0, inr f.2.1)) some_;
          each = length-set ss i r.stand ∙ (law.each ∙ sym (length-set c.seats i next_seat));
          programs = pairs_set (λ (y : Stand) (z : SeatState). Aims y z.program) c.seats ss i next_seat r.stand law.programs r.aims;
          stands = λ j y at. ⊎_elim
              (λ b. subst (StandFits (IsPast q (with_seat i x hand ws hs (record c { calls = a })) (set ss i r.stand)) (Own L j)) b.1
              (subst (λ k. StandFits (IsPast q (with_seat i x hand ws hs (record c { calls = a })) (set ss i r.stand)) (Own L k) r.stand) (sym b.0) stand_now))
              (λ b. stand_more (IsPast q c ss) (IsPast q (with_seat i x hand ws hs (record c { calls = a })) (set ss i r.stand)) (Mine j) (Own L j) still (λ z m. inl m) y (law.stands j y b.1)) (at_set ss i j r.stand y at);
          ats = λ o inside some_. behind _ _ (g.ats o inside some_);
          homes = λ k y at. home_more (HeadFits (Behind u)) (HeadFits (IsPast q (with_seat i x hand ws hs (record c { calls = a })) (set ss i r.stand))) (head_more (Behind u) (IsPast q (with_seat i x hand ws hs (record c { calls = a })) (set ss i r.stand)) behind) y (g.homes k y at);
          hands = λ j s' at. ⊎_elim
              (λ b. subst (λ (z : SeatState). HandFits (HeadFits (IsPast q (with_seat i x hand ws hs (record c { calls = a })) (set ss i r.stand))) z.hand) b.1
              (hand_more (HeadFits (Behind u)) (HeadFits (IsPast q (with_seat i x hand ws hs (record c { calls = a })) (set ss i r.stand))) (head_more (Behind u) (IsPast q (with_seat i x hand ws hs (record c { calls = a })) (set ss i r.stand)) behind) hand g.hands))
              (λ b. hand_more (HeadFits (IsPast q c ss)) (HeadFits (IsPast q (with_seat i x hand ws hs (record c { calls = a })) (set ss i r.stand))) (head_more (IsPast q c ss) (IsPast q (with_seat i x hand ws hs (record c { calls = a })) (set ss i r.stand)) still) s'.hand (law.hands j s' b.1))
              (at_set c.seats i j next_seat s' at);
          posts = λ y there. ⊎_elim (λ old. post_more (IsPast q c ss) (IsPast q (with_seat i x hand ws hs (record c { calls = a })) (set ss i r.stand)) still y (law.posts y old))
              (λ now. post_more (Behind u) (IsPast q (with_seat i x hand ws hs (record c { calls = a })) (set ss i r.stand)) behind y (g.posts y now)) there;
        },
      )

    -- ## What goes on as it is

    before : Result [] c
    before = (ss, law_more q Taken (New []) Mine (Own []) c ss (λ x there. ⊎_elim (λ z. z) (λ z. absurd z) there) (λ j x m. inl m) law)

    old : (u : Stand) (id n : ℕ) → IsPast q c ss id n → Behind u id n
    old u id n z = inl z

    old_ats : (u : Stand) → AtsFit q (Behind u) c.calls.words
    old_ats u o inside some_ = inl (law.ats o inside some_)

    old_homes : (u : Stand) → HomesFit (HeadFits (Behind u)) c.homes
    old_homes u k y at = home_more (HeadFits (IsPast q c ss)) (HeadFits (Behind u)) (head_more (IsPast q c ss) (Behind u) (old u)) y (law.homes k y at)

    old_hands : (u : Stand) → HandFits (HeadFits (Behind u)) seat.hand
    old_hands u = hand_more (HeadFits (IsPast q c ss)) (HeadFits (Behind u)) (head_more (IsPast q c ss) (Behind u) (old u)) seat.hand (law.hands i seat at_seat)

    eased_stand : (L : List Post) (u : Stand) → Eases s u → StandFits (Behind u) (Own L i) u
    eased_stand L u (inl e) = subst (StandFits (Behind u) (Own L i)) (sym e) (stand_more (IsPast q c ss) (Behind u) (Mine i) (Own L i) (old u) (λ y m. inl m) s (law.stands i s at_stand))
    eased_stand L u (inr (inl e)) = subst (StandFits (Behind u) (Own L i)) (sym e) tt
    eased_stand L u (inr (inr e)) = subst (StandFits (Behind u) (Own L i)) (sym e.3) (inr (e.2, ap (of_stand e.0 e.1) e.3))

    -- ## Steps on sockets

    on_sockets : (x : Program) (hand : List Home) (ws : List ℕ) (hs : List (Option Home)) (u : Stand) → ((id n : ℕ) → of_stand id n u ≤ of_stand id n s) → StandFits (Behind u) (Own [] i) u → HomesFit (HeadFits (Behind u)) hs → HandFits (HeadFits (Behind u)) hand → Aims u x
        → Result [] (with_seat i x hand ws hs (record c { calls = c.calls }))
    on_sockets x hand ws hs u fewer stand homes hands g = goes_on [] c.calls x hand ws hs u record {
      aims = g;
      kept = refl;
      words = λ id n m. m;
      new = λ id n. 0;
      fewer = λ id n. (let a = fewer id n in omega (arith, a));
      fresh = λ id n z. absurd (omega (arith, z));
      stand = stand;
      ats = old_ats u;
      homes = homes;
      hands = hands;
      posts = λ y there. absurd there;
    }

    -- behind which the seat has nothing
    calms : (x : Program) (hand : List Home) (ws : List ℕ) (hs : List (Option Home)) → HomesFit (HeadFits (Behind Calm)) hs → HandFits (HeadFits (Behind Calm)) hand → Aims Calm x → Result [] (with_seat i x hand ws hs (record c { calls = c.calls }))
    calms x hand ws hs homes hands g = on_sockets x hand ws hs Calm (λ id n. omega arith) tt homes hands g

    -- the seat gets another program
    pub restarts : (x : Program) → Aims Calm x → Result [] (with_seat i x [] c.words c.homes (record c { calls = c.calls }))
    restarts x g = calms x [] c.words c.homes (old_homes Calm) tt g

    same : (x : Program) (hand : List Home) (ws : List ℕ) (hs : List (Option Home)) → HomesFit (HeadFits (Behind s)) hs → HandFits (HeadFits (Behind s)) hand → Aims s x → Result [] (with_seat i x hand ws hs (record c { calls = c.calls }))
    same x hand ws hs homes hands g = on_sockets x hand ws hs s (λ id n. omega arith) (eased_stand [] s (inl refl)) homes hands g

    put_fits : (call : TableStep) (u : Stand) → MayPut s call → PutFits (HeadFits (Behind u)) call
    put_fits (OnMessage (PutMessage r heading bytes)) u (inl none_) = λ some_. absurd (some_ none_)
    put_fits (OnMessage (PutMessage r heading bytes)) u (inr is) = λ _. inl (subst (StandFits (IsPast q c ss) (Mine i)) is (law.stands i s at_stand))
    put_fits _ u may = tt

    by_letter : (r : ℕ) (next : Heading → List ℕ → Program) → Aims s (TakeMessage r next) → (x : Option HeadedBytes) → message (λ (h : Home). h) c.homes r ≡ x → Result [] (with_message p i seat c r x (λ letter. next letter.0 letter.1))
    by_letter r next go none is = before
    by_letter r next go (some letter) is = by (eqb letter.0.owner 0) refl
      where
        there : HeadFits (IsPast q c ss) letter.0
        there = law.homes r (Message letter.0 letter.1) (message_there (get_elem? c.homes r) letter is)

        by : (b : Bool) → eqb letter.0.owner 0 ≡ b → Result [] (with_message p i seat c r (some letter) (λ letter. next letter.0 letter.1))
        by true none_ = calms (next letter.0 letter.1) seat.hand c.words (set c.homes r none) (home_away (HeadFits (Behind Calm)) c.homes r (old_homes Calm)) (old_hands Calm)
            (subst (λ y. Aims y (next letter.0 letter.1)) (ap (λ b. cond b Calm (Past letter.0.owner letter.0.label.attempt)) none_) (go letter.0 letter.1))
        by false some_ = let u : Stand = Past letter.0.owner letter.0.label.attempt in
            on_sockets (next letter.0 letter.1) seat.hand c.words (set c.homes r none) (Past letter.0.owner letter.0.label.attempt) (λ id n. omega arith)
            (inl (there (λ e. (let z : true ≡ false = sym (eq-eqb letter.0.owner 0 e) ∙ some_ in cc)))) (home_away (HeadFits (Behind u)) c.homes r (old_homes u)) (old_hands u)
            (subst (λ y. Aims y (next letter.0 letter.1)) (ap (λ b. cond b Calm (Past letter.0.owner letter.0.label.attempt)) some_) (go letter.0 letter.1))

    by_link : (k : ℕ) (next : ℕ → Program) → Aims s (TakeHome k next) → (x : Option (List ℕ × ℕ)) → Result [] (with_link p i seat c k x next)
    by_link k next go none = before
    by_link k next go (some home) = calms (next home.1) (lies_at c.homes (link_place p k) ++ seat.hand) c.words (set c.homes (link_place p k) none) (home_away (HeadFits (Behind Calm)) c.homes (link_place p k) (old_homes Calm))
        (lies_fit (HeadFits (Behind Calm)) c.homes (link_place p k) seat.hand (old_homes Calm) (old_hands Calm)) (go home.1)

    by_put : (bytes : List ℕ) (next : Put → Program) → ((answer : Put) → Aims s (next answer)) → (answer : Answer) → Result [] (with_put p i seat c bytes answer next)
    by_put bytes next go (OfPut answer) = same (next answer) (onto_first (fed bytes answer) seat.hand) c.words c.homes (old_homes s) (fed_fits (HeadFits (Behind s)) bytes answer seat.hand (old_hands s)) (go answer)
    by_put bytes next go _ = before

    by_ready : (next : Ready → Program) → ((answer : Ready) → Aims s (next answer)) → (answer : Answer) → Result [] (with_ready p i seat c answer next)
    by_ready next go (OfReady answer) = same (next answer) seat.hand c.words c.homes (old_homes s) (old_hands s) (go answer)
    by_ready next go _ = before

    -- ## Steps aside

    module _ (u : IdView) (at_view : get_elem? us i ≡ some u) where
      -- a word below those of the calls
      low_kept : (x w o : ℕ) → x < 2 * q.slots → get_or (set c.calls.words x w) (at_index q o) 0 ≡ get_or c.calls.words (at_index q o) 0
      low_kept x w o low = get_or-set_other c.calls.words x (at_index q o) w 0 (λ e. omega (arith, low, e))

      -- the at words stay in any other step
      word_kept : (step : Step) (found : Found step) → MayId p q u step → StoresNone step → (o : ℕ) → get_or (calls_after step found c.calls).words (at_index q o) 0 ≡ get_or c.calls.words (at_index q o) 0
      word_kept (ClaimId k) found may none_ o = low_kept (tag_index k) 1 o (omega (arith, may))
      word_kept (MakeId k range) found may none_ o = let inside = may.0 in low_kept (id_index k) (packed (made_word (parts found).first range)) o (omega (arith, inside))
      word_kept (StoreCall x id) found may none_ o = subst (λ (r : IdPlan). get_or (set c.calls.words (call_index r x) id) (at_index q o) 0 ≡ get_or c.calls.words (at_index q o) 0) (sym ids.plan) (get_or-set_other c.calls.words (call_index q x) (at_index q o) id 0 (λ e. omega (arith, e)))
      word_kept (StoreAt x w) found may none_ o = absurd none_
      word_kept (LockId k from) found may none_ o = let inside = may.0 in low_kept (id_index k) (cond (eqb found from) (packed (posted_word (parts from) 0)) found) o (omega (arith, inside))
      word_kept (PostId k from e) found may none_ o = let inside = may.0 in low_kept (id_index k) (cond (eqb found from) (packed (posted_word (parts from) e)) found) o (omega (arith, inside))
      word_kept (UnlockId k from advance) found may none_ o = let inside = may.0 in low_kept (id_index k) (cond (eqb found from) (packed (unlocked_word (parts from) (bit advance))) found) o (omega (arith, inside))
      word_kept (EndId k) found may none_ o = let inside = may.0 in low_kept (id_index k) (packed (free_word ((parts found).first + (parts found).range))) o (omega (arith, inside))
      word_kept (FreeId k) found may none_ o = let inside = may.0 in low_kept (tag_index k) 0 o (omega (arith, inside))
      word_kept (TakeBytes l room) (Bytes bytes) may none_ o = refl
      word_kept (TakeBytes l room) _ may none_ o = refl
      word_kept _ found may none_ o = refl

      module _ (step : Step) (next : Found step → Program) (found : Found step) (t : Option Taking) (is : found_in step c.calls t ≡ some found) (may : MayId p q u step) where
        finds : FindsId p q u step found
        finds = finds_ids p q c.calls ids.plan us ids.rule i u at_view (ids.real i u at_view) (ids.called, ids.placed) ids.homes step t found is may

        words_on : (id n : ℕ) → WasMade q c.calls.words id n → WasMade q (calls_after step found c.calls).words id n
        words_on = made_on q c.calls.words (calls_after step found c.calls).words (words_forward p q c us ids i u at_view step t found is may finds)

        abbrev Now : List Post → Type 0
        Now L = Result L (with_seat i (next found) seat.hand c.words c.homes (record c { calls = calls_after step found c.calls }))

        kept_ats : (w : Stand) → StoresNone step → AtsFit q (Behind w) (calls_after step found c.calls).words
        kept_ats w none_ o inside = subst (λ n. n ≢ 0 → Behind w (call_id (at_word_slot n) (at_word_first n)) (at_word_attempt n)) (sym (word_kept step found may none_ o)) (old_ats w o inside)

        -- no new attempt
        aside : (L : List Post) (w : Stand) → Aims w (next found) → ((id n : ℕ) → of_stand id n w ≤ of_stand id n s) → StandFits (Behind w) (Own L i) w → AtsFit q (Behind w) (calls_after step found c.calls).words → ((y : Post) → In y L → PostFits (Behind w) y) → Now L
        aside L w g fewer stand ats posts = goes_on L (calls_after step found c.calls) (next found) seat.hand c.words c.homes w record {
          aims = g;
          kept = calls_waiting step found c.calls;
          words = words_on;
          new = λ id n. 0;
          fewer = λ id n. (let a = fewer id n in omega (arith, a));
          fresh = λ id n z. absurd (omega (arith, z));
          stand = stand;
          ats = ats;
          homes = old_homes w;
          hands = old_hands w;
          posts = posts;
        }

        eased : StoresNone step → (w : Stand) → Eases s w → Aims w (next found) → Now []
        eased none_ w e g = aside [] w g (λ id n. eased_count id n s w e) (eased_stand [] w e) (kept_ats w none_) (λ y there. absurd there)

        -- a new attempt
        makes : StoresNone step → (id₀ n₀ : ℕ) → n₀ ≤ 6 → Aims (Trying id₀ n₀) (next found) → WasNow q (calls_after step found c.calls).words id₀ n₀ → (WasMade q c.calls.words id₀ n₀ → ⊥) → Now []
        makes none_ id₀ n₀ few g made unmade = goes_on [] (calls_after step found c.calls) (next found) seat.hand c.words c.homes (Trying id₀ n₀) record {
          aims = g;
          kept = calls_waiting step found c.calls;
          words = words_on;
          new = λ id n. pair_of id n id₀ n₀;
          fewer = λ id n. omega arith;
          fresh = λ id n some_. let m = pair_now q c.calls.words (calls_after step found c.calls).words id₀ n₀ made unmade id n some_ in (m.0, untried (tries_of id n c ss) (law.made id n) m.2, m.1, m.2);
          stand = few;
          ats = kept_ats (Trying id₀ n₀) none_;
          homes = old_homes (Trying id₀ n₀);
          hands = old_hands (Trying id₀ n₀);
          posts = λ y there. absurd there;
        }

      -- the at word of the attempt that the seat tries is stored
      stored : (o w : ℕ) (next : ℕ → Program) (found : ℕ) (t : Option Taking) → found_in (StoreAt o w) c.calls t ≡ some found → MayId p q u (StoreAt o w) → (x : Stand) → Stowing w s x → Aims x (next found)
          → Result [] (with_seat i (next found) seat.hand c.words c.homes (record c { calls = calls_after (StoreAt o w) found c.calls }))
      stored o w next found t is may x st g = aside (StoreAt o w) next found t is may [] x g (λ id n. (let z : of_stand id n x ≡ 0 = ap (of_stand id n) st.7 in omega (arith, z)))
          (subst (StandFits (Behind x) (Own [] i)) (sym st.7) past) ats (λ y there. absurd there)
        where
          past : Behind x st.0 st.1
          past = inr (st.3, ap (of_stand st.0 st.1) st.7)

          slot : id_slot st.0 < 65536
          slot = let made = (law.made st.0 st.1 (tried st.0 st.1 st.3)).0 in omega (arith, made, narrow)

          past_word : Behind x (call_id (at_word_slot w) (at_word_first w)) (at_word_attempt w)
          past_word = let first : id_first st.0 < 4294967296 = omega arith in
              let s_w : at_word_slot w ≡ id_slot st.0 = ap at_word_slot st.4 ∙ word_slot (id_first st.0) (id_slot st.0) st.2 st.1 first slot st.5 st.6 in
              let f_w : at_word_first w ≡ id_first st.0 = ap at_word_first st.4 ∙ word_first (id_first st.0) (id_slot st.0) st.2 st.1 first slot st.5 st.6 in
              let n_w : at_word_attempt w ≡ st.1 = ap at_word_attempt st.4 ∙ word_attempt (id_first st.0) (id_slot st.0) st.2 st.1 first slot st.5 st.6 in
              subst (Behind x (call_id (at_word_slot w) (at_word_first w))) (sym n_w) (subst (λ y. Behind x y st.1) (sym (ap (λ z. call_id z (at_word_first w)) s_w ∙ (ap (call_id (id_slot st.0)) f_w ∙ id_back st.0))) past)

          sized : std.length c.calls.words ≡ all_words q
          sized = ids.rule.sized

          word_now : (o' : ℕ) → o' < q.operations → get_or (set c.calls.words (at_index q o) w) (at_index q o') 0 ≢ 0
              → Behind x (call_id (at_word_slot (get_or (set c.calls.words (at_index q o) w) (at_index q o') 0)) (at_word_first (get_or (set c.calls.words (at_index q o) w) (at_index q o') 0))) (at_word_attempt (get_or (set c.calls.words (at_index q o) w) (at_index q o') 0))
          word_now o' inside = dite (ℕ_discrete o' o)
              (λ e _. subst (λ n. Behind x (call_id (at_word_slot n) (at_word_first n)) (at_word_attempt n)) (sym (ap (λ y. get_or (set c.calls.words (at_index q o) w) (at_index q y) 0) e ∙ get_or-set_same c.calls.words (at_index q o) w 0 (let low = may.0 in omega (arith, sized, low)))) past_word)
              (λ ne. subst (λ n. n ≢ 0 → Behind x (call_id (at_word_slot n) (at_word_first n)) (at_word_attempt n)) (sym (get_or-set_other c.calls.words (at_index q o) (at_index q o') w 0 (λ e. ne (omega (arith, e))))) (old_ats x o' inside))

          ats : AtsFit q (Behind x) (set c.calls.words (at_index c.calls.plan o) w)
          ats = subst (λ (r : IdPlan). AtsFit q (Behind x) (set c.calls.words (at_index r o) w)) (sym ids.plan) word_now

      -- an error is posted only of an attempt that is past
      posts : (k from e : ℕ) (next : ℕ → Program) (found : ℕ) (t : Option Taking) → found_in (PostId k from e) c.calls t ≡ some found → MayId p q u (PostId k from e) → MayPost s (call_id k (parts from).first) e
          → (x : Stand) → Eases s x ⊎ ((found ≡ from) × (x ≡ Posted (call_id k (parts from).first) e)) → Aims x (next found) → Result (posts_by (PostId k from e) found) (with_seat i (next found) seat.hand c.words c.homes (record c { calls = calls_after (PostId k from e) found c.calls }))
      posts k from e next found t is may post x how g = aside (PostId k from e) next found t is may (posts_by (PostId k from e) found) x g fewer stand (kept_ats (PostId k from e) next found t is may x tt) fits
        where
          fewer : (id n : ℕ) → of_stand id n x ≤ of_stand id n s
          fewer id n = ⊎_elim (λ y. eased_count id n s x y) (λ y. let z : of_stand id n x ≡ 0 = ap (of_stand id n) y.1 in omega (arith, z)) how

          there : found ≡ from → In {A = Post} (record { id = call_id k (parts from).first; error = e }) (posts_by (PostId k from e) found)
          there same_ = subst (λ b. In {A = Post} (record { id = call_id k (parts from).first; error = e }) (cond b ((record { id = call_id k (parts from).first; error = e }) ∷ []) [])) (sym (eq-eqb found from same_)) (inl refl)

          stand : StandFits (Behind x) (Own (posts_by (PostId k from e) found) i) x
          stand = ⊎_elim (λ y. eased_stand (posts_by (PostId k from e) found) x y) (λ y. subst (StandFits (Behind x) (Own (posts_by (PostId k from e) found) i)) (sym y.1) (inr (inr (refl, there y.0)))) how

          fits_now : PostFits (Behind x) (record { id = call_id k (parts from).first; error = e })
          fits_now = ⊎_elim (λ whole. inl whole)
              (λ y. let past : IsPast q c ss (call_id k (parts from).first) y.1 = subst (StandFits (IsPast q c ss) (Mine i)) y.3 (law.stands i s at_stand) in
              let few = past.0 in let same_ : attempt_of e ≡ y.1 = (let z : attempt_of (error_of y.0 y.1) ≡ y.1 = omega (arith, few) in ap attempt_of y.2 ∙ z) in
              inr (inl (subst (IsPast q c ss (call_id k (parts from).first)) (sym same_) past)))
              post

          fits : (y : Post) → In y (posts_by (PostId k from e) found) → PostFits (Behind x) y
          fits y at = by (eqb found from) at
            where
              by : (b : Bool) → In y (cond b ((record { id = call_id k (parts from).first; error = e }) ∷ []) []) → PostFits (Behind x) y
              by true (inl z) = subst (PostFits (Behind x)) (sym z) fits_now
              by true (inr z) = absurd z
              by false z = absurd z

      -- ## Errors that are taken out

      -- none of an attempt is fresh where its seat tries an attempt of the range, or makes the next one
      whole : AreQueued q Taken c → (k from : ℕ) (advance : Bool) (next : ℕ → Program) (found : ℕ) (t : Option Taking) → found_in (UnlockId k from advance) c.calls t ≡ some found → MayId p q u (UnlockId k from advance) → MayAside s (UnlockId k from advance)
          → found ≡ from → (parts from).oldest ≢ 0 → is_stale (parts from).oldest (unlocked_word (parts from) (bit advance)) ≡ false → attempt_of (parts from).oldest ≡ WHOLE
      whole known k from advance next found t is may trying hit some_ fresh = ⊎_elim (λ z. z) (λ there. ⊎_elim (λ z. z) (λ past. ⊎_elim (λ z. z) (λ same_. absurd (none_fresh advance is may trying past same_)) (fresh_error (parts from).oldest (unlocked_word (parts from) (bit advance)) fresh))
          (law.posts (record { id = call_id k (parts from).first; error = (parts from).oldest }) there)) (queued.0 some_)
        where
          here : word_of_id c.calls.words k ≡ parts from
          here = ap parts (some-injective (get_or c.calls.words (id_index k) 0) found is ∙ hit)

          alive : (parts from).state ≡ 2
          alive = may.1.7.state_is

          queued : QueuedAt Taken k (parts from)
          queued = subst (QueuedAt Taken k) here (known k may.0 (subst (λ (w : Parts). 0 < w.state) (sym here) (omega (arith, alive))))

          none_fresh : (b : Bool) → found_in (UnlockId k from b) c.calls t ≡ some found → MayId p q u (UnlockId k from b) → MayAside s (UnlockId k from b) → IsPast q c ss (call_id k (parts from).first) (attempt_of (parts from).oldest) → attempt_of (parts from).oldest ≡ (parts from).attempt + bit b → ⊥
          none_fresh true is may trying past same_ = (advances_new p q c us ids i u at_view k from found is hit may (finds_label p q c us ids i u at_view (UnlockId k from true) found may (finds (UnlockId k from true) next found t is may))).1
              (subst (WasMade q c.calls.words (call_id k (parts from).first)) same_ past.2)
          none_fresh false is may trying past same_ = dite (ℕ_discrete trying.0 (parts from).attempt)
              (λ e. let y : tries_of (call_id k (parts from).first) trying.0 c ss ≡ 0 = subst (λ n. tries_of (call_id k (parts from).first) n c ss ≡ 0) (same_ ∙ (let z : (parts from).attempt + 0 ≡ (parts from).attempt = omega arith in z ∙ sym e)) past.1 in omega (arith, y, tries))
              (λ ne. given_before (omega (arith, ne, not_more)))
            where
              tries : 0 < tries_of (call_id k (parts from).first) trying.0 c ss
              tries = tried (call_id k (parts from).first) trying.0 trying.1

              few : trying.0 ≤ 6
              few = subst (StandFits (IsPast q c ss) (Mine i)) trying.1 (law.stands i s at_stand)

              low : (parts from).first < 4294967296
              low = (finds_label p q c us ids i u at_view (UnlockId k from false) found may (finds (UnlockId k from false) next found t is may)).0

              made_low : WasMade q c.calls.words (call_id k (parts from).first) trying.0 → trying.0 ≤ (parts from).attempt
              made_low m = let slot : id_slot (call_id k (parts from).first) ≡ k = omega (arith, low) in let first : id_first (call_id k (parts from).first) ≡ (parts from).first = omega (arith, low) in
                  let word : word_of_id c.calls.words (id_slot (call_id k (parts from).first)) ≡ parts from = ap (word_of_id c.calls.words) slot ∙ here in
                  let one : (word_of_id c.calls.words (id_slot (call_id k (parts from).first))).first ≡ (parts from).first = ap (λ (w : Parts). w.first) word in
                  let two : (word_of_id c.calls.words (id_slot (call_id k (parts from).first))).attempt ≡ (parts from).attempt = ap (λ (w : Parts). w.attempt) word in
                  ⊎_elim (λ x. absurd (omega (arith, x, one, first))) (λ x. let more = x.2 in omega (arith, more, two)) m.1

              not_more : trying.0 ≤ (parts from).attempt
              not_more = made_low (law.made (call_id k (parts from).first) trying.0 tries)

              given_before : trying.0 < (parts from).attempt → ⊥
              given_before less = let there = queued.1 trying.0 less in let same_ : attempt_of (error_of there.0 trying.0) ≡ trying.0 = omega (arith, few) in
                  ⊎_elim (λ z. (let y : trying.0 ≡ 7 = sym same_ ∙ z in omega (arith, y, few))) (λ past. (let y : tries_of (call_id k (parts from).first) trying.0 c ss ≡ 0 = subst (λ n. tries_of (call_id k (parts from).first) n c ss ≡ 0) same_ past.1 in omega (arith, y, tries)))
                  (law.posts (record { id = call_id k (parts from).first; error = error_of there.0 trying.0 }) there.1)

      -- ## Each step aside

      asides : AreQueued q Taken c → (step : Step) (next : Found step → Program) (found : Found step) (t : Option Taking) → found_in step c.calls t ≡ some found → MayId p q u step → Aims s (Aside step next)
          → Result (posts_by step found) (with_seat i (next found) seat.hand c.words c.homes (record c { calls = calls_after step found c.calls }))
      asides known (MakeId k range) next found t is may g = let x = g.1 found tt in let m = makes_new p q c us ids i u at_view k range found is may (finds (MakeId k range) next found t is may) in
          makes (MakeId k range) next found t is may tt (call_id k (parts found).first) 0 (omega arith) (subst (λ y. Aims y (next found)) x.1 x.2) m.0 (m.1 0)
      asides known (StoreAt o w) next found t is may g = let x = g.1 found tt in stored o w next found t is may x.0 x.1 x.2
      asides known (PostId k from e) next found t is may g = let x = g.1 found tt in posts k from e next found t is may g.0 x.0 x.1 x.2
      asides known (UnlockId k from false) next found t is may g = let l = finds_label p q c us ids i u at_view (UnlockId k from false) found may (finds (UnlockId k from false) next found t is may) in
          let x = g.1 found (l.0, l.1, l.2, whole known k from false next found t is may g.0) in eased (UnlockId k from false) next found t is may tt x.0 (inl x.1) x.2
      asides known (UnlockId k from true) next found t is may g = let l = finds_label p q c us ids i u at_view (UnlockId k from true) found may (finds (UnlockId k from true) next found t is may) in
          let x = g.1 found (l.0, l.1, l.2, whole known k from true next found t is may g.0) in by (eqb found from) refl x.0 x.1 x.2
        where
          by : (b : Bool) → eqb found from ≡ b → (y : Stand) → y ≡ unlocked_stand k from true found s → Aims y (next found) → Result [] (with_seat i (next found) seat.hand c.words c.homes (record c { calls = calls_after (UnlockId k from true) found c.calls }))
          by true hit y e h = let l = finds_label p q c us ids i u at_view (UnlockId k from true) found may (finds (UnlockId k from true) next found t is may) in let m = advances_new p q c us ids i u at_view k from found is (eqb-true found from hit) may l in
              makes (UnlockId k from true) next found t is may tt (call_id k (parts from).first) ((parts from).attempt + 1) l.1 (subst (λ z. Aims z (next found)) (e ∙ ap (λ b. cond b (Trying (call_id k (parts from).first) ((parts from).attempt + 1)) s) hit) h) m.0 m.1
          by false miss y e h = eased (UnlockId k from true) next found t is may tt y (inl (e ∙ ap (λ b. cond b (Trying (call_id k (parts from).first) ((parts from).attempt + 1)) s) miss)) h
      asides known (LoadAt o) next found t is may g = let x = g.1 found tt in ⊎_elim (λ e. eased (LoadAt o) next found t is may tt x.0 e x.2)
          (λ y. aside (LoadAt o) next found t is may [] x.0 x.2 (λ id n. (let z : of_stand id n x.0 ≡ 0 = ap (of_stand id n) y.1 in omega (arith, z))) (subst (StandFits (Behind x.0) (Own [] i)) (sym y.1) (loaded x.0 y.0)) (old_ats x.0) (λ z there. absurd there)) x.1
        where
          word : get_or c.calls.words (at_index q o) 0 ≡ found
          word = ap (λ (r : IdPlan). get_or c.calls.words (at_index r o) 0) (sym ids.plan) ∙ some-injective (get_or c.calls.words (at_index c.calls.plan o) 0) found is

          loaded : (w : Stand) → found ≢ 0 → Behind w (call_id (at_word_slot found) (at_word_first found)) (at_word_attempt found)
          loaded w some_ = subst (λ n. n ≢ 0 → Behind w (call_id (at_word_slot n) (at_word_first n)) (at_word_attempt n)) word (old_ats w o may) some_
      asides known (ClaimId k) next found t is may g = let x = g.1 found tt in eased (ClaimId k) next found t is may tt x.0 x.1 x.2
      asides known (PutCall k asked) next found t is may g = let x = g.1 found tt in eased (PutCall k asked) next found t is may tt x.0 x.1 x.2
      asides known (StoreCall o id) next found t is may g = let x = g.1 found tt in eased (StoreCall o id) next found t is may tt x.0 x.1 x.2
      asides known (LoadCall o) next found t is may g = let x = g.1 found tt in eased (LoadCall o) next found t is may tt x.0 x.1 x.2
      asides known (LoadIdWord k) next found t is may g = let x = g.1 found tt in eased (LoadIdWord k) next found t is may tt x.0 x.1 x.2
      asides known (LockId k from) next found t is may g = let x = g.1 found tt in eased (LockId k from) next found t is may tt x.0 x.1 x.2
      asides known (EndId k) next found t is may g = let x = g.1 found tt in eased (EndId k) next found t is may tt x.0 x.1 x.2
      asides known (FreeId k) next found t is may g = let x = g.1 found tt in eased (FreeId k) next found t is may tt x.0 x.1 x.2
      asides known (TakeCall k) next found t is may g = let x = g.1 found tt in eased (TakeCall k) next found t is may tt x.0 x.1 x.2
      asides known (TakeBytes k room) next found t is may g = let x = g.1 found tt in eased (TakeBytes k room) next found t is may tt x.0 x.1 x.2

      by_found : AreQueued q Taken c → (step : Step) (next : Found step → Program) (t : Option Taking) → MayId p q u step → Aims s (Aside step next) → (x : Option (Found step)) → found_in step c.calls t ≡ x
          → Result (elim x as (λ o. List Post) [ none ↦ [] | some found ↦ posts_by step found ]) (with_found p i seat c step x next)
      by_found known step next t may g none is = before
      by_found known step next t may g (some found) is = asides known step next found t is may g

      pub steps : AreQueued q Taken c → (answer : Answer) (x : Program) → Aims s x → IdGoesOn p q u x → FitsFirst p c x → Result (posted_with c.calls (taken answer) x) (step_with p i seat c answer x)
      steps known answer (Do call next) g go fits = let w = g.1 (found_at c.words (word_of p call)) fits in
          on_sockets (next (found_at c.words (word_of p call))) (hand_after p call c.homes seat.hand) (words_after c.words (word_of p call) (word_after call (found_at c.words (word_of p call)))) (homes_after p call seat.hand c.homes) w.0
          (λ id n. eased_count id n s w.0 w.1) (eased_stand [] w.0 w.1) (homes_fit (HeadFits (Behind w.0)) p call (put_fits call w.0 g.0) c.homes seat.hand (old_homes w.0) (old_hands w.0)) (hand_fits (HeadFits (Behind w.0)) p call c.homes seat.hand (old_homes w.0) (old_hands w.0)) w.2
      steps known answer (TakeMessage r next) g go fits = by_letter r next g (message (λ (h : Home). h) c.homes r) refl
      steps known answer (TakeHome k next) g go fits = by_link k next g (link_home (λ (h : Home). h) p c.homes k)
      steps known answer (PutHome k n after) g go fits = calms after (others_of seat.hand) c.words (set c.homes (link_place p k) (first_of (onto_first (with_places n) seat.hand)))
          (home_set (HeadFits (Behind Calm)) c.homes (link_place p k) (first_of (onto_first (with_places n) seat.hand)) (first_fits (HeadFits (Behind Calm)) (onto_first (with_places n) seat.hand) (places_fit (HeadFits (Behind Calm)) n seat.hand (old_hands Calm))) (old_homes Calm))
          (others_fit (HeadFits (Behind Calm)) seat.hand (old_hands Calm)) g
      steps known answer (PutBytes k asked bytes next) g go fits = by_put bytes next g answer
      steps known answer (AskReady k next) g go fits = by_ready next g answer
      steps known answer (Aside step next) g go fits = by_found known step next (taken answer) go.0 g (found_in step c.calls (taken answer)) refl
      steps known answer _ g go fits = before

  -- ## A tick of any seat

  module _ (m : Moment) where
    abbrev pub After : Core → Type 0
    After d = (xs : List Stand) × AimLaw q (λ x. Taken x ⊎ In x (posted_at c m)) (λ j x. Mine j x ⊎ In x (posted_by j c m)) d xs

    module _ (seat : SeatState) (at : get_elem? c.seats m.seat ≡ some seat) where
      abbrev shown : List Post
      shown = posted_with c.calls (taken m.answer) (first_step seat.program)

      is_shown : posted_at c m ≡ posted_with c.calls (taken m.answer) (first_step seat.program)
      is_shown = ap (λ x. elim x as (λ o. List Post) [ none ↦ [] | some seat ↦ posted_with c.calls (taken m.answer) (first_step seat.program) ]) at ∙ ap (posted_with c.calls (taken m.answer)) (same_first seat.program)

      mine_shown : (j : ℕ) (x : Post) → (j ≡ m.seat) × In x (posted_with c.calls (taken m.answer) (first_step seat.program)) → In x (posted_by j c m)
      mine_shown j x there = subst (λ b. In x (cond b (posted_at c m) [])) (sym (eq-eqb m.seat j (sym there.0))) (subst (In x) (sym is_shown) there.1)

      after : ticked p c m ≡ step_with p m.seat seat c m.answer (first_step seat.program)
      after = ap (λ x. elim x as (λ x. Core) [ none ↦ c | some s ↦ tick_with p m.seat s c m.answer s.program ]) at ∙ ticks_first p m.seat seat c m.answer seat.program

      by_seat : AreQueued q Taken c → FitsFirst p c (first_step seat.program) → After (ticked p c m)
      by_seat known fits =
          let s = elem_there c.seats ss m.seat seat law.each at in let u = elem_there c.seats us m.seat seat ids.each at in
          let r = steps m.seat seat s.0 at s.1 u.0 u.1 known m.answer (first_step seat.program) (aims_first s.0 seat.program (law.programs m.seat seat s.0 at s.1)) (ids_first p q narrow u.0 seat.program (ids.seats m.seat seat u.0 at u.1))
          (subst (FitsFirst p c) (same_first seat.program) fits) in
          subst After (sym after) (
            r.0,
            law_more q (New m.seat seat s.0 at s.1 shown) (λ x. Taken x ⊎ In x (posted_at c m)) (Own m.seat seat s.0 at s.1 shown) (λ j x. Mine j x ⊎ In x (posted_by j c m)) (step_with p m.seat seat c m.answer (first_step seat.program)) r.0
                (λ x there. ⊎_elim (λ old. inl old) (λ now. inr (subst (In x) is_shown now)) there) (λ j x there. ⊎_elim (λ old. inl old) (λ now. inr (mine_shown j x now)) there) r.1,
          )

      -- the seat decides on an error that it posted, or that is for the whole call
      decides : (d : Decision) → In d (decision_in seat.program) → attempt_of d.error ≢ WHOLE → Mine m.seat (record { id = d.id; error = d.error })
      decides d there own = let s = elem_there c.seats ss m.seat seat law.each at in by s.0 (law.stands m.seat s.0 s.1) seat.program (law.programs m.seat seat s.0 at s.1) there
        where
          posted_so : (s : Stand) (id e : ℕ) → StandFits (IsPast q c ss) (Mine m.seat) s → (attempt_of e ≡ WHOLE) ⊎ (s ≡ Posted id e) → (attempt_of e ≡ WHOLE) ⊎ Mine m.seat (record { id = id; error = e })
          posted_so s id e fits (inl whole) = inl whole
          posted_so s id e fits (inr is) = subst (StandFits (IsPast q c ss) (Mine m.seat)) is fits

          by : (s : Stand) → StandFits (IsPast q c ss) (Mine m.seat) s → (x : Program) → Aims s x → In d (decision_in x) → Mine m.seat (record { id = d.id; error = d.error })
          by s fits (Round (Decides id asked w e) next) g (inl same) = let e_is : d.error ≡ e = ap (λ (y : Decision). y.error) same in
              ⊎_elim (λ whole. absurd (own (ap attempt_of e_is ∙ whole))) (λ mine. subst (λ (y : Decision). Mine m.seat (record { id = y.id; error = y.error })) (sym same) mine) (posted_so s id e fits g.0.1)
          by s fits (Round (Decides id asked w e) next) g (inr none_) = absurd none_
          by s fits _ g none_ = absurd none_

    pub aim_ticks : AreQueued q Taken c → IsFittingIds p c m → After (ticked p c m)
    aim_ticks known fits = by (get_elem? c.seats m.seat) refl
      where
        by : (x : Option SeatState) → get_elem? c.seats m.seat ≡ x → After (ticked p c m)
        by none e = subst After (sym (ap (λ x. elim x as (λ x. Core) [ none ↦ c | some s ↦ tick_with p m.seat s c m.answer s.program ]) e)) (
          ss,
          law_more q Taken (λ x. Taken x ⊎ In x (posted_at c m)) Mine (λ j x. Mine j x ⊎ In x (posted_by j c m)) c ss
              (λ x there. ⊎_elim (λ old. old) (λ now. absurd (subst (In x) (ap (λ x. elim x as (λ o. List Post) [ none ↦ [] | some seat ↦ posted_with c.calls (taken m.answer) (first_step seat.program) ]) e) now)) there) (λ j x mine. inl mine) law,
        )
        by (some seat) e = by_seat seat e known (fits seat e)

    pub decided_own : (d : Decision) → In d (decided_at c m) → attempt_of d.error ≢ WHOLE → Mine m.seat (record { id = d.id; error = d.error })
    decided_own d there own = by (get_elem? c.seats m.seat) refl there
      where
        by : (x : Option SeatState) → get_elem? c.seats m.seat ≡ x → In d (elim x as (λ o. List Decision) [ none ↦ [] | some seat ↦ decision_in seat.program ]) → Mine m.seat (record { id = d.id; error = d.error })
        by none e z = absurd z
        by (some seat) e z = decides seat e d z own
