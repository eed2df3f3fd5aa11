-- What holds behind a part of a program and is kept by each of its steps holds before it.
use Rattle.std.proofs.Common.{◌≡◌, ℕ, ◌+◌, ◌-◌, ◌%◌, ◌==◌, ◌&&◌, ◌||◌, not, nat_le, Bool, true, false, cond, List, refl, sym, subst}
use Rattle.std.proofs.lemmas.Bool.{true≢false}
use Rattle.std.proofs.Math.Path.{fun_ext}
use Rattle.std.specs.Prelude.{Option}
use mathlib.Core.Option.{none, some-ne-none}
use Rattle.sock_words.specs.PackedWords.{socket_id_version, socket_id_slot, vref_version, vref_nref, id_slot}
use Rattle.sock_words.specs.declared.outcome.Outcome.{Outcome}
use Rattle.sock_words.specs.declared.outcome.Outcome.TheVariants.{Gone, Held, Freed, Kept}
use Rattle.sock_words.specs.declared.plain.Plan.{Plan}
use Rattle.seat_programs.specs.sock_io.specs.declared.link.Put.{Put}
use Rattle.seat_programs.specs.sock_io.specs.declared.link.Ready.{Ready}
use Rattle.sock_model.specs.declared.chain.Heading.{Heading}
use Rattle.sock_steps.proofs.SumsAsMarksChange.{either_way}
use Rattle.seat_programs.specs.corr_core.specs.IdSlotWord.{parts}
use Rattle.seat_programs.specs.sock_message.specs.Asked.{Asked}
use Rattle.seat_programs.specs.TableSteps.{TableStep, OnSlot, OnName, OnChain, OnLink, OnMessage, CreateLife, StoreOpen, AddRef, SubRef, SetOdd, Recycle, FreeSlot, LoadLink, StoreCode, LoadName, LoadOpen, TakeLink, FinishLink, PutLink, LookWord, ClaimRequest, PutMessage, SwapHead, EmptyHead}
use Rattle.seat_programs.specs.Writings.{Writing}
use Rattle.seat_programs.specs.Asides.{Step, Found, PutCall, StoreAt, LoadIdWord, LockId, UnlockId, EndId, FreeId, TakeCall, TakeBytes, Taking}
use Rattle.seat_programs.specs.LoopHeads.{Head, Exit, Retry, Sought, Reading, Ended, Posts, Unlocks, Decides, Locks, Joins, Opens, Reads, Discards, Posting, Unlocking, Deciding, Locking}
use Rattle.seat_programs.specs.Programs.{Program, Do, Say, Sent, TakeMessage, TakeHome, PutHome, PutBytes, AskReady, Write, Aside, Round, Keep, Retries, LAST_VERSION, recycle, release, add_reference, find_socket, set_failed, fail, fail_outcome, hold, drop_held}
use Rattle.seat_programs.specs.ReaderProgram.{ended_by}
use Rattle.seat_programs.specs.Cores.{next_step}
use Rattle.sock_runs.specs.program_steps.specs.AtSteps.{Asks, AtSteps}
use Rattle.sock_runs.specs.program_steps.proofs.TickCases.{ComesNext}
use Rattle.sock_runs.proofs.NotesOfSteps.{bears}
use Rattle.sock_runs.specs.program_steps.proofs.AtCalls.{AtCalls, asks_calls, every_exit}
use Rattle.program_walks.proofs.Records.{stores, loads, awaits, RecordsAt, Records}

-- ## Kinds of steps

-- a step by which a life is set failed, one by which one is made, and one that a message makes
abbrev pub sets_failed : TableStep → Bool
sets_failed (OnSlot (SetOdd i)) = true
sets_failed (OnSlot (StoreCode i h c)) = true
sets_failed other = false

abbrev pub makes_life : TableStep → Bool
makes_life (OnSlot (CreateLife i k)) = true
makes_life (OnName (StoreOpen o w)) = true
makes_life other = false

abbrev pub is_of_message : TableStep → Bool
is_of_message (OnSlot (LookWord id)) = true
is_of_message (OnChain (ClaimRequest id q)) = true
is_of_message (OnMessage (PutMessage q heading bytes)) = true
is_of_message (OnChain (SwapHead i own)) = true
is_of_message (OnChain (EmptyHead i last)) = true
is_of_message other = false

-- a step of which no property along steps asks anything
abbrev pub is_plain : TableStep → Bool
is_plain (OnName (LoadOpen o)) = false
is_plain call = not (sets_failed call || makes_life call || is_of_message call)

-- of these, one by which a reference is given back, or a slot is freed
abbrev pub is_freeing : TableStep → Bool
is_freeing (OnSlot (SubRef i)) = true
is_freeing (OnSlot (Recycle i from)) = true
is_freeing (OnSlot (LoadLink i v)) = true
is_freeing (OnSlot (FreeSlot i)) = true
is_freeing (OnLink step) = true
is_freeing other = false

abbrev pub is_plain_aside : Step → Bool
is_plain_aside (StoreAt o w) = false
is_plain_aside (TakeBytes k room) = false
is_plain_aside other = true

-- of these, one on the word of an id, or on its call, that posts nothing
abbrev pub is_of_id : Step → Bool
is_of_id (LoadIdWord i) = true
is_of_id (LockId i from) = true
is_of_id (UnlockId i from advance) = true
is_of_id (EndId i) = true
is_of_id (FreeId i) = true
is_of_id (PutCall i asked) = true
is_of_id (TakeCall i) = true
is_of_id other = false

-- a loop about an error: it is posted, decided on, or the lock that it got is given back
abbrev pub is_of_errors : Head → Bool
is_of_errors (Posts id e w) = true
is_of_errors (Unlocks i w advance) = true
is_of_errors (Decides id asked w e) = true
is_of_errors other = false

-- of these, one that posts nothing
abbrev pub is_of_lock : Head → Bool
is_of_lock (Posts id e w) = false
is_of_lock head = is_of_errors head

-- ## What a property along steps asks

-- each of these steps keeps it
abbrev pub PassesSteps : (TableStep → Bool) → (Program → Type 0) → Type 0
PassesSteps these G = (call : TableStep) (next : ℕ → Program) → these call ≡ true → ((found : ℕ) → G (next found)) → G (Do call next)

-- what is asked beside the steps on words: these steps aside keep it, and so do what is said, these loops, and the retry that is kept behind an exchange that advanced an attempt
pub record PassesBeside (these : Step → Bool) (loops : Head → Bool) (G : Program → Type 0) : Type 0 where
  pub say : (o : ℕ) (outcome : Outcome) (next : Program) → G next → G (Say o outcome next)
  pub aside : (step : Step) (next : Found step → Program) → these step ≡ true → ((found : Found step) → G (next found)) → G (Aside step next)
  pub round : (head : Head) (next : Exit head → Program) → loops head ≡ true → ((exit : Exit head) → G (next exit)) → G (Round head next)
  pub again : (id w : ℕ) (next kept : Unlocking → Program) → ((exit : Unlocking) → kept exit ≡ Keep (record { id = id; attempt = (parts w).attempt + 1 }) (next exit)) → ((exit : Unlocking) → G (next exit)) → G (Round (Unlocks (id_slot id) w true) kept)

-- about errors, and where none is posted
abbrev pub PassesErrors : (Program → Type 0) → Type 0
PassesErrors = PassesBeside is_plain_aside is_of_errors

abbrev pub PassesLocked : (Program → Type 0) → Type 0
PassesLocked = PassesBeside is_of_id is_of_lock

-- of plain steps on words, and of what is said
pub record PassesWords (G : Program → Type 0) : Type 0 where
  pub step : PassesSteps is_plain G
  pub say : (o : ℕ) (outcome : Outcome) (next : Program) → G next → G (Say o outcome next)

-- what every property asks
pub record PassesPlain (G : Program → Type 0) : Type 0 where
  pub words : PassesWords G
  pub errors : PassesErrors G

-- lives are set failed with this code
abbrev pub PassesFails : (Program → Type 0) → ℕ → Type 0
PassesFails G code = (id : ℕ) (next : ℕ → Program) → ((found : ℕ) → G (next found)) → G (set_failed id code next)

-- what whoever writes a link asks, where H holds behind the writing
pub record PassesLinks (G H : Program → Type 0) : Type 0 where
  pub look : (id : ℕ) (next : ℕ → Program) → ((found : ℕ) → G (next found)) → G (Do (OnSlot (LookWord id)) next)
  pub empty : (i last : ℕ) (next : Program) (more : ℕ → Program) → H next → ((found : ℕ) → G (more found)) → G (Do (OnChain (EmptyHead i last)) (λ found. cond (found == last) next (more found)))
  pub message : (q : ℕ) (next : Heading → List ℕ → Program) → ((heading : Heading) (bytes : List ℕ) → G (next heading bytes)) → G (TakeMessage q next)
  pub home : (k : ℕ) (next : ℕ → Program) → ((places : ℕ) → G (next places)) → G (TakeHome k next)
  pub puts_home : (k n : ℕ) (after : Program) → G after → G (PutHome k n after)
  pub put : (k : ℕ) (asked : Bool) (bytes : List ℕ) (next : Put → Program) → ((answer : Put) → G (next answer)) → G (PutBytes k asked bytes next)
  pub ask : (k : ℕ) (next : Ready → Program) → ((answer : Ready) → G (next answer)) → G (AskReady k next)
  pub write : (w : Writing) (after : Program) → H after → G (Write w after)
  pub fails : PassesFails G 1009

-- what whoever sends a message asks
pub record PassesSends (G : Program → Type 0) : Type 0 where
  pub plain : PassesPlain G
  pub links : PassesLinks G G
  pub step : PassesSteps is_of_message G
  pub sent : (o : ℕ) (next : Program) → G next → G (Sent o next)

-- an at word is stored; a lock is sought; the end of a range is waited for
abbrev pub PassesStores : (Program → Type 0) → Type 0
PassesStores G = (o w : ℕ) (next : ℕ → Program) → ((found : ℕ) → G (next found)) → G (Aside (StoreAt o w) next)

abbrev pub PassesLocks : (Program → Type 0) → Type 0
PassesLocks G = (i : ℕ) (sought : Sought) (w : Option ℕ) (next : Locking → Program) → ((exit : Locking) → G (next exit)) → G (Round (Locks i sought w) next)

abbrev pub PassesJoins : (Program → Type 0) → Type 0
PassesJoins G = (id : ℕ) (next : ℕ → Program) → ((now : ℕ) → G (next now)) → G (Round (Joins id) next)

-- what readers ask, where it is known how a reading ends
pub record PassesReads (Ends : Ended → Type 0) (G : Program → Type 0) : Type 0 where
  pub plain : PassesPlain G
  pub locks : PassesLocks G
  pub take : (k room : ℕ) (next : Taking → Program) → ((found : Taking) → G (next found)) → G (Aside (TakeBytes k room) next)
  pub reads : (r : Reading) (next : Ended → Program) → ((how : Ended) → Ends how → G (next how)) → G (Round (Reads r) next)
  pub discards : (k total : ℕ) (next : ℕ → Program) → ((now : ℕ) → G (next now)) → G (Round (Discards k total) next)
  pub closed : (closed fault : Bool) (r : Reading) → Ends (ended_by 1014 closed fault r)
  pub faulted : (r : Reading) → Ends (ended_by 2002 false true r)

-- the load of the word of an `open`, and a loop that waits for it, make no difference
pub record PassesOpens (G : Program → Type 0) : Type 0 where
  pub load : (o : ℕ) (next : ℕ → Program) → ((found : ℕ) → G (next found)) → G (Do (OnName (LoadOpen o)) next)
  pub wait : (o : ℕ) (next : ℕ → Program) → ((exit : ℕ) → G (next exit)) → G (Round (Opens o) next)

abbrev pub any_end : Ended → Type 0
any_end how = Unit {0}

-- all of this but what makes a life, and what is asked of the word of an `open`
pub record Passes (G : Program → Type 0) : Type 0 where
  pub sends : PassesSends G
  pub failing : PassesSteps sets_failed G
  pub stored : PassesStores G
  pub joins : PassesJoins G
  pub reads : PassesReads any_end G

-- and what holds before each of them holds behind it
pub record Follows (G : Program → Type 0) : Type 0 where
  pub said : (o : ℕ) (outcome : Outcome) (next : Program) → G (Say o outcome next) → G next
  pub sent : (o : ℕ) (next : Program) → G (Sent o next) → G next
  pub message : (q : ℕ) (next : Heading → List ℕ → Program) → G (TakeMessage q next) → (heading : Heading) (bytes : List ℕ) → G (next heading bytes)
  pub home : (k : ℕ) (next : ℕ → Program) → G (TakeHome k next) → (places : ℕ) → G (next places)
  pub puts_home : (k n : ℕ) (after : Program) → G (PutHome k n after) → G after
  pub put : (k : ℕ) (asked : Bool) (bytes : List ℕ) (next : Put → Program) → G (PutBytes k asked bytes next) → (answer : Put) → G (next answer)
  pub ask : (k : ℕ) (next : Ready → Program) → G (AskReady k next) → (answer : Ready) → G (next answer)
  pub write : (w : Writing) (after : Program) → G (Write w after) → G after
  pub aside : (step : Step) (next : Found step → Program) → G (Aside step next) → (found : Found step) → G (next found)
  pub round : (head : Head) (next : Exit head → Program) → G (Round head next) → (exit : Exit head) → G (next exit)
  pub keep : (r : Retry) (next : Program) → G (Keep r next) → G next
  pub retries : (requests : ℕ) (after : Program) → G (Retries requests after) → G after

-- a loop about an error is one of three
pub by_errors : (G : Program → Type 0) → ((id e w : ℕ) (next : Posting → Program) → ((exit : Posting) → G (next exit)) → G (Round (Posts id e w) next))
    → ((i w : ℕ) (advance : Bool) (next : Unlocking → Program) → ((exit : Unlocking) → G (next exit)) → G (Round (Unlocks i w advance) next))
    → ((id : ℕ) (asked : Asked) (w e : ℕ) (next : Deciding → Program) → ((exit : Deciding) → G (next exit)) → G (Round (Decides id asked w e) next))
    → (head : Head) (next : Exit head → Program) → is_of_errors head ≡ true → ((exit : Exit head) → G (next exit)) → G (Round head next)
by_errors G posts unlocks decides (Posts id e w) next is r = posts id e w next r
by_errors G posts unlocks decides (Unlocks i w advance) next is r = unlocks i w advance next r
by_errors G posts unlocks decides (Decides id asked w e) next is r = decides id asked w e next r
by_errors G posts unlocks decides _ next is r = absurd (true≢false (sym is))

-- where errors are posted or not
pub locked : {G : Program → Type 0} → PassesErrors G → PassesLocked G
locked g = record { say = g.say; aside = λ step next is r. g.aside step next (plain step is) r; round = λ head next is r. g.round head next (of_errors head is) r; again = g.again }
  where
    plain : (step : Step) → is_of_id step ≡ true → is_plain_aside step ≡ true
    plain (StoreAt o w) is = is
    plain (TakeBytes k room) is = is
    plain _ is = refl

    of_errors : (head : Head) → is_of_lock head ≡ true → is_of_errors head ≡ true
    of_errors (Posts id e w) is = refl
    of_errors _ is = is

-- where steps that give back a reference keep it
module _ (G : Program → Type 0) (frees : PassesSteps is_freeing G) where
  given_recycle : (i from : ℕ) (next : Bool → Program) → ((b : Bool) → G (next b)) → G (recycle i from next)
  given_recycle i from next after = frees (OnSlot (Recycle i from)) _ refl (λ found. either_way (found == from) _ _ G
      (frees (OnSlot (LoadLink i (vref_version from + 1))) _ refl (λ k. frees (OnLink (TakeLink k)) _ refl (λ _. frees (OnLink (FinishLink k)) _ refl (λ _. frees (OnLink (PutLink k)) _ refl (λ _.
      either_way (nat_le (vref_version from + 1) LAST_VERSION) _ _ G (frees (OnSlot (FreeSlot i)) _ refl (λ _. after true)) (after true))))))
      (after false))

  pub given_release : (i : ℕ) (next : Bool → Program) → ((b : Bool) → G (next b)) → G (release i next)
  given_release i next after = frees (OnSlot (SubRef i)) _ refl (λ found. either_way ((vref_version found % 2 == 1) && (vref_nref found == 1)) _ _ G (given_recycle i (found - 1) next after) (after false))

module _ (G : Program → Type 0) (g : PassesWords G) where
  frees : PassesSteps is_freeing G
  frees call next is r = g.step call next (plain call is) r
    where
      plain : (call : TableStep) → is_freeing call ≡ true → is_plain call ≡ true
      plain (OnSlot (SubRef i)) is = refl
      plain (OnSlot (Recycle i from)) is = refl
      plain (OnSlot (LoadLink i v)) is = refl
      plain (OnSlot (FreeSlot i)) is = refl
      plain (OnLink step) is = refl
      plain _ is = absurd (true≢false (sym is))

  pub through_release : (i : ℕ) (next : Bool → Program) → ((b : Bool) → G (next b)) → G (release i next)
  through_release = given_release G frees

  pub through_address : (id : ℕ) (held : Program) (gone : ℕ → Program) → G held → ((found : ℕ) → G (gone found)) → G (add_reference id held gone)
  through_address id held gone h after = g.step (OnSlot (AddRef id)) _ refl (λ found. either_way (vref_version found == socket_id_version id) _ _ G h (through_release (socket_id_slot id) (λ _. gone found) (λ _. after found)))

  pub through_reach : (name : ℕ) (unopened : Program) (held gone : ℕ → Program) → G unopened → ((id : ℕ) → G (held id)) → ((found : ℕ) → G (gone found)) → G (find_socket name unopened held gone)
  through_reach name unopened held gone u h after = g.step (OnName (LoadName name)) _ refl (λ word. either_way (word == 0) _ _ G u (through_address (word - 1) (held (word - 1)) gone (h (word - 1)) after))

  pub through_set_failed : PassesSteps sets_failed G → (code : ℕ) → PassesFails G code
  through_set_failed failing code id next after = failing (OnSlot (SetOdd (socket_id_slot id))) _ refl (λ found. either_way (vref_version found % 2 == 0) _ _ G
      (failing (OnSlot (StoreCode (socket_id_slot id) (socket_id_version id) code)) _ refl (λ _. g.step (OnSlot (SubRef (socket_id_slot id))) _ refl (λ _. after found))) (after found))

  pub through_fail : (o name code : ℕ) (next : Program) → PassesFails G code → G next → G (fail o name code next)
  through_fail o name code next fails after = through_reach name _ _ _ (g.say o _ next after)
      (λ id. fails id _ (λ found. through_release (socket_id_slot id) _ (λ _. g.say o (fail_outcome found) next after))) (λ found. g.say o _ next after)

  pub through_hold : (o name : ℕ) (held : ℕ → Program) (next : Program) → ((id : ℕ) → G (held id)) → G next → G (hold o name held next)
  through_hold o name held next h after = through_reach name _ _ _ (g.say o _ next after) (λ id. g.say o Held (held id) (h id)) (λ found. g.say o (Gone (record { 0 = found })) next after)

  pub through_drop : (o id : ℕ) (next : Program) → G next → G (drop_held o id next)
  through_drop o id next after = through_release (socket_id_slot id) _ (λ freed. g.say o (cond freed Freed Kept) next after)

-- where nothing is asked of a step that no message makes
module _ (G : Program → Type 0) (others : (call : TableStep) (next : ℕ → Program) → is_of_message call ≡ false → ((found : ℕ) → G (next found)) → G (Do call next)) where
  pub others_plain : PassesSteps is_plain G
  others_plain (OnSlot (LookWord id)) next is r = absurd (true≢false (sym is))
  others_plain (OnChain (ClaimRequest id q)) next is r = absurd (true≢false (sym is))
  others_plain (OnMessage (PutMessage q heading bytes)) next is r = absurd (true≢false (sym is))
  others_plain (OnChain (SwapHead i own)) next is r = absurd (true≢false (sym is))
  others_plain (OnChain (EmptyHead i last)) next is r = absurd (true≢false (sym is))
  others_plain call next is r = others call next refl r

  pub others_failing : PassesSteps sets_failed G
  others_failing (OnSlot (SetOdd i)) next is r = others (OnSlot (SetOdd i)) next refl r
  others_failing (OnSlot (StoreCode i h c)) next is r = others (OnSlot (StoreCode i h c)) next refl r
  others_failing _ next is r = absurd (true≢false (sym is))

  pub others_make : PassesSteps makes_life G
  others_make (OnSlot (CreateLife i k)) next is r = others (OnSlot (CreateLife i k)) next refl r
  others_make (OnName (StoreOpen o w)) next is r = others (OnName (StoreOpen o w)) next refl r
  others_make _ next is r = absurd (true≢false (sym is))

-- where nothing is asked of loops, whatever is known of how a reading ends
pub reads_any : (G : Program → Type 0) → PassesPlain G → ((head : Head) → awaits head ≡ none → (next : Exit head → Program) → ((exit : Exit head) → G (next exit)) → G (Round head next))
    → ((k room : ℕ) (next : Taking → Program) → ((found : Taking) → G (next found)) → G (Aside (TakeBytes k room) next)) → PassesReads any_end G
reads_any G plain looped take = record {
  plain = plain;
  locks = λ i sought w next r. looped (Locks i sought w) refl next r;
  take = take;
  reads = λ r next x. looped (Reads r) refl next (λ how. x how tt);
  discards = λ k total next r. looped (Discards k total) refl next r;
  closed = λ closed fault r. tt;
  faulted = λ r. tt;
}

-- where nothing is asked of what sets a life failed
pub through_any_failed : (G : Program → Type 0) (g : Passes G) (code : ℕ) → PassesFails G code
through_any_failed G g code = through_set_failed G g.sends.plain.words g.failing code

-- ## Properties along steps

-- what is known before a step on words is so behind it, and these leave it as it is
module _ {S : Type 0} (asks : Asks S) (s : S) where
  abbrev B : Program → Type 0
  B = AtSteps asks s

  pub at_steps_plain : PassesSteps is_plain B → ((behind : S → Type 0) → behind s → asks.said s behind)
      → ((step : Step) (next : Found step → Program) → is_plain_aside step ≡ true → ((found : Found step) → B (next found)) → B (Aside step next))
      → ((head : Head) (next : Exit head → Program) → is_of_errors head ≡ true → ((exit : Exit head) → B (next exit)) → B (Round head next))
      → ((id w : ℕ) (next : Unlocking → Program) → ((exit : Unlocking) → B (next exit)) → asks.loop s (Unlocks (id_slot id) w true) (λ t exit. AtSteps asks t (Keep (record { id = id; attempt = (parts w).attempt + 1 }) (next exit)))) → PassesPlain B
  at_steps_plain step said aside round again = record {
    words = record { step = step; say = λ o outcome next r. said (λ t. AtSteps asks t next) r };
    errors = record {
      say = λ o outcome next r. said (λ t. AtSteps asks t next) r;
      aside = aside;
      round = round;
      again = λ id w next kept is r. subst (λ (k : Unlocking → Program). B (Round (Unlocks (id_slot id) w true) k)) (fun_ext (λ exit. sym (is exit))) (again id w next r);
    };
  }

  -- where t is known behind a writing
  pub at_steps_links : (t : S) → ((id : ℕ) (next : ℕ → Program) → ((found : ℕ) → B (next found)) → B (Do (OnSlot (LookWord id)) next))
      → ((i last : ℕ) (next : Program) (more : ℕ → Program) → AtSteps asks t next → ((found : ℕ) → B (more found)) → B (Do (OnChain (EmptyHead i last)) (λ found. cond (found == last) next (more found))))
      → ((behind : S → Type 0) → behind s → asks.moved s behind) → ((behind : S → Type 0) → behind t → asks.written s behind) → PassesFails B 1009 → PassesLinks B (AtSteps asks t)
  at_steps_links t look empty moved written fails = record {
    look = look;
    empty = empty;
    message = λ q next r. moved (λ t. (heading : Heading) (bytes : List ℕ) → AtSteps asks t (next heading bytes)) r;
    home = λ k next r. moved (λ t. (places : ℕ) → AtSteps asks t (next places)) r;
    puts_home = λ k n after r. moved (λ t. AtSteps asks t after) r;
    put = λ k asked bytes next r. moved (λ t. (answer : Put) → AtSteps asks t (next answer)) r;
    ask = λ k next r. moved (λ t. (answer : Ready) → AtSteps asks t (next answer)) r;
    write = λ w after r. written (λ t. AtSteps asks t after) r;
    fails = fails;
  }

  -- where all of a message leaves it
  pub at_steps_sends : PassesPlain B → PassesSteps is_of_message B → ((behind : S → Type 0) → behind s → asks.said s behind) → ((behind : S → Type 0) → behind s → asks.moved s behind)
      → ((behind : S → Type 0) → behind s → asks.written s behind) → PassesFails B 1009 → PassesSends B
  at_steps_sends plain step said moved written fails = record {
    plain = plain;
    links = at_steps_links s (λ id next r. step (OnSlot (LookWord id)) next refl r) (λ i last next more x y. step (OnChain (EmptyHead i last)) (λ found. cond (found == last) next (more found)) refl (λ found. either_way (found == last) next (more found) B x (y found))) moved written fails;
    step = step;
    sent = λ o next r. said (λ t. AtSteps asks t next) r;
  }

-- what asks something of steps on words and of loops alone is kept where it asks nothing of these steps and loops
module _ {S : Type 0} (rest : Type 0) (calls : S → TableStep → (ℕ → Program) → (S → ℕ → Type 0) → Type 0) (loops : (head : Head) → (Exit head → Type 0) → Type 0) (s : S) where
  abbrev asked : Asks S
  asked = asks_calls rest calls loops

  abbrev A : Program → Type 0
  A = AtCalls rest calls loops s

  three_none : (call : TableStep) → is_plain call ≡ true → (stores call ≡ none) × (bears call ≡ none) × (loads call ≡ none)
  three_none (OnSlot (CreateLife i k)) is = absurd (true≢false (sym is))
  three_none (OnName (StoreOpen o w)) is = absurd (true≢false (sym is))
  three_none (OnName (LoadOpen o)) is = absurd (true≢false (sym is))
  three_none call is = (refl, refl, refl)

  pub at_calls_passes : ((call : TableStep) (next : ℕ → Program) → stores call ≡ none → bears call ≡ none → loads call ≡ none → ((found : ℕ) → A (next found)) → A (Do call next))
      → ((head : Head) → awaits head ≡ none → (next : Exit head → Program) → ((exit : Exit head) → A (next exit)) → A (Round head next)) → Passes A
  at_calls_passes plain looped = record {
    sends = at_steps_sends asked s bare sending (λ behind r. r) (λ behind r. r) (λ behind r. r) (fails 1009);
    failing = failing;
    stored = λ o w next r. r;
    joins = λ id next r. looped (Joins id) refl next r;
    reads = reads_any A bare looped (λ k room next r. r);
  }
    where
      of_errors : (head : Head) (next : Exit head → Program) → is_of_errors head ≡ true → ((exit : Exit head) → A (next exit)) → A (Round head next)
      of_errors (Opens o) next is r = absurd (true≢false (sym is))
      of_errors head next is r = looped head refl next r

      failing : PassesSteps sets_failed A
      failing (OnSlot (SetOdd i)) next is r = plain (OnSlot (SetOdd i)) next refl refl refl r
      failing (OnSlot (StoreCode i h c)) next is r = plain (OnSlot (StoreCode i h c)) next refl refl refl r
      failing _ next is r = absurd (true≢false (sym is))

      sending : PassesSteps is_of_message A
      sending (OnSlot (LookWord id)) next is r = plain (OnSlot (LookWord id)) next refl refl refl r
      sending (OnChain (ClaimRequest id q)) next is r = plain (OnChain (ClaimRequest id q)) next refl refl refl r
      sending (OnMessage (PutMessage q heading bytes)) next is r = plain (OnMessage (PutMessage q heading bytes)) next refl refl refl r
      sending (OnChain (SwapHead i own)) next is r = plain (OnChain (SwapHead i own)) next refl refl refl r
      sending (OnChain (EmptyHead i last)) next is r = plain (OnChain (EmptyHead i last)) next refl refl refl r
      sending _ next is r = absurd (true≢false (sym is))

      bare : PassesPlain A
      bare = at_steps_plain asked s (λ call next is r. let n = three_none call is in plain call next n.0 n.1 n.2 r) (λ behind r. r) (λ step next is r. r) of_errors (λ id w next r. looped (Unlocks (id_slot id) w true) refl (λ exit. Keep (record { id = id; attempt = (parts w).attempt + 1 }) (next exit)) r)

      fails : (code : ℕ) → PassesFails A code
      fails = through_set_failed A bare.words failing

  pub at_calls_follow : ((head : Head) (next : Exit head → Program) → A (Round head next) → (exit : Exit head) → A (next exit)) → Follows A
  at_calls_follow left = record { said = λ o outcome next r. r; sent = λ o next r. r; message = λ q next r. r; home = λ k next r. r; puts_home = λ k n after r. r; put = λ k asked bytes next r. r; ask = λ k next r. r; write = λ w after r. r; aside = λ step next r. r; round = left; keep = λ r next x. x; retries = λ requests after r. r }

-- so is what a program stores, of whatever operations
pub records_passes : (left : ℕ → Bool) → Passes (Records left)
records_passes left = at_calls_passes (Unit {0}) RecordsAt every_exit left (plain left) (λ head l next r. r)
  where
    plain : (left : ℕ → Bool) (call : TableStep) (next : ℕ → Program) → stores call ≡ none → bears call ≡ none → loads call ≡ none → ((found : ℕ) → Records left (next found)) → Records left (Do call next)
    plain left (OnSlot (CreateLife i k)) next s b l r = absurd (some-ne-none i b)
    plain left (OnName (StoreOpen o w)) next s b l r = absurd (some-ne-none (o, w) s)
    plain left call next s b l r = r

pub records_opens : (left : ℕ → Bool) → PassesOpens (Records left)
records_opens left = record { load = λ o next r. r; wait = λ o next r. r }

pub records_follow : (left : ℕ → Bool) → Follows (Records left)
records_follow left = at_calls_follow (Unit {0}) RecordsAt every_exit left (λ head next r. r)

-- what follows what is said
module _ (G : Program → Type 0) (f : Follows G) where
  pub next_follows : (program : Program) → G program → G (next_step program)
  next_follows (Say o outcome next) x = next_follows next (f.said o outcome next x)
  next_follows (Sent o next) x = next_follows next (f.sent o next x)
  next_follows _ x = x

  -- and a step that is none on a word
  pub comes_follows : (p : Plan) (first program : Program) → ComesNext p first program → G first → G program
  comes_follows p (TakeMessage q next) program comes x = subst G (sym comes.2) (f.message q next x comes.0 comes.1)
  comes_follows p (TakeHome k next) program comes x = subst G (sym comes.1) (f.home k next x comes.0)
  comes_follows p (PutHome k n after) program comes x = subst G (sym comes) (f.puts_home k n after x)
  comes_follows p (PutBytes k asked bytes next) program comes x = subst G (sym comes.1) (f.put k asked bytes next x comes.0)
  comes_follows p (AskReady k next) program comes x = subst G (sym comes.1) (f.ask k next x comes.0)
  comes_follows p (Aside step next) program comes x = subst G (sym comes.1) (f.aside step next x comes.0)
  comes_follows p _ program comes x = absurd comes
