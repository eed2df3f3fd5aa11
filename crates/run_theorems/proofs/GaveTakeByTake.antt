-- What a run has of what a link gave is what its reading half answered, one take after another.
use Rattle.std.proofs.Common.{◌≡◌, ℕ, zero, suc, ◌+◌, ◌<◌, ◌==◌, Bool, true, false, cond, eqb-true, List, [], ◌∷◌, ◌++◌, length, map, filter, replicate, get_or-set_same, get_or-set_other, refl, sym, ap, ◌∙◌, subst, append-nil, append_assoc, arith, if◌then◌else◌}
use Rattle.std.proofs.lemmas.Bool.{eqb-false}
use Rattle.std.proofs.lemmas.List.{get_or-replicate}
use Rattle.std.proofs.lemmas.List.Concat.{flat_map-append}
use Rattle.std.specs.Prelude as std
use Rattle.std.specs.Prelude.{slice_index_or, Ok}
use mathlib.Core.Option.{Option, none, some}
use lib.ListN.{get_elem?}
use Rattle.sock_words.specs.declared.plain.Plan.{Plan}
use Rattle.sock_io.specs.declared.link.Put.{Put}
use Rattle.sock_io.specs.declared.link.Ready.{Ready}
use Rattle.corr_core.specs.IdSlotWord.{parts, code_of}
use Rattle.corr_core.specs.EndedByRangeOrAttempt.{ends_call}
use Rattle.brpc_model.specs.Items.{Item}
use Rattle.brpc_model.specs.Operations.{Turn}
use Rattle.brpc_model.specs.Script.{script_of}
use Rattle.sock_model.specs.UnplacedMessages.{HeadedBytes}
use Rattle.sock_model.specs.ChainLawReads.{message, link_home}
use Rattle.seat_programs.specs.Asides.{Step, ClaimId, PutCall, MakeId, StoreCall, LoadCall, StoreAt, LoadAt, LoadIdWord, LockId, PostId, UnlockId, EndId, FreeId, TakeCall, TakeBytes, Found, Taking, Bytes, Nothing, NoMore, AtEnd, Closed, Broken}
use Rattle.seat_programs.specs.FoundAndChangedAside.{at_last, found_in, calls_after, more_given}
use Rattle.seat_programs.specs.LoopHeads.{Posts, Unlocks, Decides, Locks, Joins, Opens, Reads, Discards, HasEnded}
use Rattle.seat_programs.specs.PostPrograms.{end_id, unlocked}
use Rattle.seat_programs.specs.Writings.{Puts, Waits, Empties, Reversing}
use Rattle.seat_programs.specs.Programs.{Program, TakeMessage, TakeHome, PutBytes, AskReady, Write, Aside, Round}
use Rattle.seat_programs.specs.Cores.{Core, SeatState}
use Rattle.seat_programs.specs.Ticks.{Answer, Unasked, OfPut, OfReady, OfTake, Moment, quiet, taken, with_message, with_link, with_put, with_ready, with_found, step_with, tick_with, ticked, run}
use Rattle.seat_programs.specs.Tasks.{plan_of}
use Rattle.seat_programs.specs.ScriptSetupToEnding.{opened, ending, set_up, played, IsRunWithCalls}
use Rattle.outcome_causes.specs.program_steps.proofs.TickCases.{ticks_first}
use Rattle.run_theorems.specs.Heard.{take_of, as_taken, taken_link, taken_at, taken_in, heard_takes, take_answers, bytes_found, given_by}
use Rattle.run_theorems.proofs.HeardRuns.{same_heard_takes}
use Rattle.run_theorems.proofs.RunLengths.{tick_long, run_sizes}
use Rattle.seat_programs.specs.LoopRounds.{first_step}
use Rattle.sock_words.specs.PackedWords.{id_slot}

-- ## A tick

abbrev IsStep : Program → Type 0
IsStep (Write w after) = ⊥
IsStep (Round head next) = ⊥
IsStep other = Unit {0}

-- which is no head of a loop, and takes bytes of the same link
first_takes : (program : Program) → IsStep (first_step program) × (taken_link (first_step program) ≡ taken_link program)
first_takes (Write (Puts h now heading left took put) after) = (tt, refl)
first_takes (Write (Waits h now heading left took) after) = (tt, refl)
first_takes (Write (Empties h) after) = (tt, refl)
first_takes (Write (Reversing h top at after) then_) = (tt, refl)
first_takes (Round (Posts id e w) next) = (tt, refl)
first_takes (Round (Unlocks j w advance) next) = (tt, refl)
first_takes (Round (Decides id call w e) next) =
    let ended : Program = end_id (id_slot id) (next (HasEnded call.operation (code_of e))) in
    let goes_on : Program = Aside (PutCall (id_slot id) call) (λ _. Round (Unlocks (id_slot id) w true) (unlocked (record { id = id; attempt = (parts w).attempt + 1 }) next)) in
    elim (ends_call (parts w) e) as (λ x. IsStep (if x then ended else goes_on) × (taken_link (if x then ended else goes_on) ≡ [])) [ true ↦ (tt, refl) | false ↦ (tt, refl) ]
first_takes (Round (Locks j sought (std.Some w)) next) = (tt, refl)
first_takes (Round (Locks j sought std.None) next) = (tt, refl)
first_takes (Round (Joins id) next) = (tt, refl)
first_takes (Round (Opens o) next) = (tt, refl)
first_takes (Round (Reads r) next) = (tt, refl)
first_takes (Round (Discards l total) next) = (tt, refl)
first_takes program = (tt, refl)

-- the bytes of what takes were answered
abbrev bytes_in : List Answer → List ℕ
bytes_in answers = given_by (as_taken answers)

bytes_on : (xs ys : List Answer) → bytes_in (xs ++ ys) ≡ bytes_in xs ++ bytes_in ys
bytes_on xs ys = ap given_by (flat_map-append take_of xs ys) ∙ flat_map-append bytes_found (as_taken xs) (as_taken ys)

-- an answer without bytes, however often it is counted
no_bytes : (a : Answer) → given_by (take_of a) ≡ [] → (ks : List ℕ) → bytes_in (map (λ (k : ℕ). a) ks) ≡ []
no_bytes a e [] = refl
no_bytes a e (k ∷ ks) = flat_map-append bytes_found (take_of a) (as_taken (map (λ (k : ℕ). a) ks)) ∙ ap (λ (l : List ℕ). l ++ bytes_in (map (λ (k : ℕ). a) ks)) e ∙ no_bytes a e ks

module _ (k : ℕ) where
  abbrev gave : Core → List ℕ
  gave c = slice_index_or c.calls.gave k []

  -- the answers to takes of this link
  abbrev answered : Answer → Program → List Answer
  answered a program = map (λ (j : ℕ). a) (filter (λ (j : ℕ). j == k) (taken_link program))

  module _ (p : Plan) (i : ℕ) (seat : SeatState) (c : Core) where
    message_gave : (q : ℕ) (o : Option HeadedBytes) (next : HeadedBytes → Program) → gave (with_message p i seat c q o next) ≡ gave c
    message_gave q none next = refl
    message_gave q (some letter) next = refl

    link_gave : (l : ℕ) (o : Option (List ℕ × ℕ)) (next : ℕ → Program) → gave (with_link p i seat c l o next) ≡ gave c
    link_gave l none next = refl
    link_gave l (some home) next = refl

    put_gave : (bytes : List ℕ) (answer : Answer) (next : Put → Program) → gave (with_put p i seat c bytes answer next) ≡ gave c
    put_gave bytes (OfPut answer) next = refl
    put_gave bytes other next = refl

    ready_gave : (answer : Answer) (next : Ready → Program) → gave (with_ready p i seat c answer next) ≡ gave c
    ready_gave (OfReady answer) next = refl
    ready_gave other next = refl

    found_gave : (step : Step) (o : Option (Found step)) (next : Found step → Program) → ((found : Found step) → (calls_after step found c.calls).gave ≡ c.calls.gave) → gave (with_found p i seat c step o next) ≡ gave c
    found_gave step none next same = refl
    found_gave step (some found) next same = ap (λ (l : List (List ℕ)). slice_index_or l k []) (same found)

    -- a take appends the bytes that it found
    unchanged : (j : ℕ) (t : Taking) → given_by (take_of (OfTake t)) ≡ [] → gave c ≡ gave c ++ bytes_in (map (λ (l : ℕ). OfTake t) (filter (λ (l : ℕ). l == k) (j ∷ [])))
    unchanged j t e = sym (append-nil (gave c)) ∙ ap (λ (l : List ℕ). gave c ++ l) (sym (no_bytes (OfTake t) e (filter (λ (l : ℕ). l == k) (j ∷ []))))

    appended : (j : ℕ) (bytes : List ℕ) → k < length c.calls.gave → (test : Bool) → (j == k) ≡ test →
        slice_index_or (more_given j (Bytes bytes) c.calls).gave k [] ≡ gave c ++ bytes_in (map (λ (l : ℕ). OfTake (Bytes bytes)) (cond test (j ∷ []) []))
    appended j bytes inside true e = subst (λ (l : ℕ). slice_index_or (more_given l (Bytes bytes) c.calls).gave k [] ≡ gave c ++ (bytes ++ [])) (sym (eqb-true j k e))
        (get_or-set_same c.calls.gave k (gave c ++ bytes) [] inside ∙ ap (λ (l : List ℕ). gave c ++ l) (sym (append-nil bytes)))
    appended j bytes inside false e = get_or-set_other c.calls.gave j k (slice_index_or c.calls.gave j [] ++ bytes) [] (λ same. eqb-false j k e (sym same)) ∙ sym (append-nil (gave c))

    take_gave : (j : ℕ) (e : Bool) (t : Taking) → k < length c.calls.gave → slice_index_or (more_given j (at_last e t) c.calls).gave k [] ≡ gave c ++ bytes_in (map (λ (l : ℕ). OfTake t) (filter (λ (l : ℕ). l == k) (j ∷ [])))
    take_gave j true (Bytes bytes) inside = appended j bytes inside (j == k) refl
    take_gave j false (Bytes bytes) inside = appended j bytes inside (j == k) refl
    take_gave j true Nothing inside = unchanged j Nothing refl
    take_gave j false Nothing inside = unchanged j Nothing refl
    take_gave j true NoMore inside = unchanged j NoMore refl
    take_gave j false NoMore inside = unchanged j NoMore refl
    take_gave j true AtEnd inside = unchanged j AtEnd refl
    take_gave j false AtEnd inside = unchanged j AtEnd refl
    take_gave j true Closed inside = unchanged j Closed refl
    take_gave j false Closed inside = unchanged j Closed refl
    take_gave j true Broken inside = unchanged j Broken refl
    take_gave j false Broken inside = unchanged j Broken refl

    -- a step aside that takes no bytes
    still_gave : (step : Step) (answer : Answer) (next : Found step → Program) → ((found : Found step) → (calls_after step found c.calls).gave ≡ c.calls.gave) → gave (step_with p i seat c answer (Aside step next)) ≡ gave c ++ []
    still_gave step answer next same = found_gave step (found_in step c.calls (taken answer)) next same ∙ sym (append-nil (gave c))

    bytes_gave : (j room : ℕ) (answer : Answer) (next : Taking → Program) → k < length c.calls.gave → gave (step_with p i seat c answer (Aside (TakeBytes j room) next)) ≡ gave c ++ bytes_in (answered answer (Aside (TakeBytes j room) next))
    bytes_gave j room (OfTake t) next inside = take_gave j c.calls.ending t inside
    bytes_gave j room Unasked next inside = sym (append-nil (gave c)) ∙ ap (λ (l : List ℕ). gave c ++ l) (sym (no_bytes Unasked refl (filter (λ (l : ℕ). l == k) (j ∷ []))))
    bytes_gave j room (OfPut x) next inside = sym (append-nil (gave c)) ∙ ap (λ (l : List ℕ). gave c ++ l) (sym (no_bytes (OfPut x) refl (filter (λ (l : ℕ). l == k) (j ∷ []))))
    bytes_gave j room (OfReady x) next inside = sym (append-nil (gave c)) ∙ ap (λ (l : List ℕ). gave c ++ l) (sym (no_bytes (OfReady x) refl (filter (λ (l : ℕ). l == k) (j ∷ []))))

    aside_gave : (step : Step) (answer : Answer) (next : Found step → Program) → k < length c.calls.gave → gave (step_with p i seat c answer (Aside step next)) ≡ gave c ++ bytes_in (answered answer (Aside step next))
    aside_gave (TakeBytes j room) answer next inside = bytes_gave j room answer next inside
    aside_gave (ClaimId j) answer next inside = still_gave (ClaimId j) answer next (λ found. refl)
    aside_gave (PutCall j asked) answer next inside = still_gave (PutCall j asked) answer next (λ found. refl)
    aside_gave (MakeId j range) answer next inside = still_gave (MakeId j range) answer next (λ found. refl)
    aside_gave (StoreCall o id) answer next inside = still_gave (StoreCall o id) answer next (λ found. refl)
    aside_gave (LoadCall o) answer next inside = still_gave (LoadCall o) answer next (λ found. refl)
    aside_gave (StoreAt o w) answer next inside = still_gave (StoreAt o w) answer next (λ found. refl)
    aside_gave (LoadAt o) answer next inside = still_gave (LoadAt o) answer next (λ found. refl)
    aside_gave (LoadIdWord j) answer next inside = still_gave (LoadIdWord j) answer next (λ found. refl)
    aside_gave (LockId j from) answer next inside = still_gave (LockId j from) answer next (λ found. refl)
    aside_gave (PostId j from e) answer next inside = still_gave (PostId j from e) answer next (λ found. refl)
    aside_gave (UnlockId j from advance) answer next inside = still_gave (UnlockId j from advance) answer next (λ found. refl)
    aside_gave (EndId j) answer next inside = still_gave (EndId j) answer next (λ found. refl)
    aside_gave (FreeId j) answer next inside = still_gave (FreeId j) answer next (λ found. refl)
    aside_gave (TakeCall j) answer next inside = still_gave (TakeCall j) answer next (λ found. refl)

    step_gave : (answer : Answer) (program : Program) → IsStep program → k < length c.calls.gave → gave (step_with p i seat c answer program) ≡ gave c ++ bytes_in (answered answer program)
    step_gave answer (Aside step next) is inside = aside_gave step answer next inside
    step_gave answer (TakeMessage q next) is inside = message_gave q (message (λ home. home) c.homes q) (λ letter. next letter.0 letter.1) ∙ sym (append-nil (gave c))
    step_gave answer (TakeHome l next) is inside = link_gave l (link_home (λ home. home) p c.homes l) next ∙ sym (append-nil (gave c))
    step_gave answer (PutBytes l asked bytes next) is inside = put_gave bytes answer next ∙ sym (append-nil (gave c))
    step_gave answer (AskReady l next) is inside = ready_gave answer next ∙ sym (append-nil (gave c))
    step_gave answer (Round head next) is inside = absurd is
    step_gave answer (Write w after) is inside = absurd is
    step_gave answer other is inside = sym (append-nil (gave c))

    tick_with_gave : (answer : Answer) (program : Program) → k < length c.calls.gave → gave (tick_with p i seat c answer program) ≡ gave c ++ bytes_in (answered answer program)
    tick_with_gave answer program inside = let first = first_takes program in
        ap gave (ticks_first p i seat c answer program) ∙ step_gave answer (first_step program) first.0 inside
        ∙ ap (λ (ks : List ℕ). gave c ++ bytes_in (map (λ (j : ℕ). answer) (filter (λ (j : ℕ). j == k) ks))) first.1

  tick_gave : (p : Plan) (c : Core) (m : Moment) → k < length c.calls.gave → gave (ticked p c m) ≡ gave c ++ bytes_in (taken_at c m k)
  tick_gave p c m inside = by_seat (get_elem? c.seats m.seat)
    where
      by_seat : (o : Option SeatState) → gave (elim o as (λ o. Core) [ none ↦ c | some seat ↦ tick_with p m.seat seat c m.answer seat.program ])
          ≡ gave c ++ bytes_in (elim o as (λ o. List Answer) [ none ↦ [] | some seat ↦ map (λ (j : ℕ). m.answer) (filter (λ (j : ℕ). j == k) (taken_link seat.program)) ])
      by_seat none = sym (append-nil (gave c))
      by_seat (some seat) = tick_with_gave p m.seat seat c m.answer seat.program inside

  run_gave : (p : Plan) (c : Core) (ms : List Moment) → k < length c.calls.gave → gave (run p c ms) ≡ gave c ++ bytes_in (taken_in p c ms k)
  run_gave p c [] inside = sym (append-nil (gave c))
  run_gave p c (m ∷ ms) inside =
      let long = (tick_long p m c).gave in
      run_gave p (ticked p c m) ms (omega (arith, inside, long))
      ∙ ap (λ (l : List ℕ). l ++ bytes_in (taken_in p (ticked p c m) ms k)) (tick_gave p c m inside)
      ∙ append_assoc (gave c) (bytes_in (taken_at c m k)) (bytes_in (taken_in p (ticked p c m) ms k))
      ∙ ap (λ (l : List ℕ). gave c ++ l) (sym (bytes_on (taken_at c m k) (taken_in p (ticked p c m) ms k)))

  -- ## A run

  -- the setup and the ending take no bytes
  quiet_bytes : (p : Plan) (c : Core) (n : ℕ) → bytes_in (taken_in p c (replicate n (quiet 0)) k) ≡ []
  quiet_bytes p c zero = refl
  quiet_bytes p c (suc n) = bytes_on (taken_at c (quiet 0) k) (taken_in p (ticked p c (quiet 0)) (replicate n (quiet 0)) k)
      ∙ ap (λ (l : List ℕ). l ++ bytes_in (taken_in p (ticked p c (quiet 0)) (replicate n (quiet 0)) k)) (by_seat (get_elem? c.seats 0))
      ∙ quiet_bytes p (ticked p c (quiet 0)) n
    where
      by_seat : (o : Option SeatState) → bytes_in (elim o as (λ o. List Answer) [ none ↦ [] | some seat ↦ map (λ (j : ℕ). Unasked) (filter (λ (j : ℕ). j == k) (taken_link seat.program)) ]) ≡ []
      by_seat none = refl
      by_seat (some seat) = no_bytes Unasked refl (filter (λ (j : ℕ). j == k) (taken_link seat.program))

  quiet_gave : (p : Plan) (c : Core) (n : ℕ) → k < length c.calls.gave → gave (run p c (replicate n (quiet 0))) ≡ gave c
  quiet_gave p c n inside = run_gave p c (replicate n (quiet 0)) inside ∙ ap (λ (l : List ℕ). gave c ++ l) (quiet_bytes p c n) ∙ append-nil (gave c)

-- what the run has of link k's bytes at its end is what the takes of it were answered
pub gave_heard : (bytes : List ℕ) (script : List Item) → script_of bytes ≡ Ok script → (turns : List Turn) (core : Core) (r : IsRunWithCalls script turns core) (k : ℕ) → k < (plan_of script).links → slice_index_or core.calls.gave k [] ≡ given_by (heard_takes r k)
gave_heard bytes script reads turns core r k low =
    let p : Plan = plan_of script in
    let c₁ : Core = set_up script r.setup in
    let c₂ : Core = played script r.setup (r.scheduled ++ r.later) in
    let c₃ : Core = run p (ending script c₂) (replicate r.last (quiet 0)) in
    let sized = run_sizes bytes script reads turns core r in
    let long₀ = sized.opened.gave in
    let long₁ = sized.set_up.gave in
    let long₂ = sized.played.gave in
    let long₃ = sized.ended.gave in
    let first : gave k (opened script) ≡ [] = get_or-replicate p.links k [] [] low in
    let setup : gave k c₁ ≡ [] = quiet_gave k p (opened script) r.setup (omega (arith, low, long₀)) ∙ first in
    let clients : gave k c₂ ≡ bytes_in (taken_in p c₁ (r.scheduled ++ r.later) k) = run_gave k p c₁ (r.scheduled ++ r.later) (omega (arith, low, long₁)) ∙ ap (λ (l : List ℕ). l ++ bytes_in (taken_in p c₁ (r.scheduled ++ r.later) k)) setup in
    let over : gave k r.ended ≡ bytes_in (taken_in p c₁ (r.scheduled ++ r.later) k) = ap (gave k) r.is_ended ∙ quiet_gave k p (ending script c₂) r.last (omega (arith, low, long₂)) ∙ clients in
    ap (gave k) r.is_end ∙ run_gave k p r.ended r.final (omega (arith, low, long₃)) ∙ ap (λ (l : List ℕ). l ++ bytes_in (taken_in p r.ended r.final k)) over
    ∙ sym (bytes_on (taken_in p c₁ (r.scheduled ++ r.later) k) (taken_in p r.ended r.final k))

-- so takes of it that were answered the same, but for their bytes, in runs that have the same bytes of it, found the same
pub same_takes : (bytes : List ℕ) (script : List Item) → script_of bytes ≡ Ok script → (turns : List Turn) (a b : Core) (h : IsRunWithCalls script turns a) (k : IsRunWithCalls script turns b) (j : ℕ) → j < (plan_of script).links →
    take_answers (heard_takes h j) ≡ take_answers (heard_takes k j) → slice_index_or a.calls.gave j [] ≡ slice_index_or b.calls.gave j [] → heard_takes h j ≡ heard_takes k j
same_takes bytes script reads turns a b h k j low same given =
    same_heard_takes script turns a b h k j same (sym (gave_heard bytes script reads turns a h j low) ∙ given ∙ gave_heard bytes script reads turns b k j low)
