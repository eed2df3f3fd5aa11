-- As a run ends, each message of an attempt is over the link of a life that its name had, which an at word of it tells that was stored; and so does each at word that was loaded.
use Rattle.std.proofs.Common.{◌≡◌, ◌≢◌, ℕ, ⊎_elim, true, false, List, [], ◌∷◌, sym, subst}
use Rattle.std.specs.List.{AllByRecursion}
use Rattle.sock_words.specs.declared.plain.Plan.{Plan}
use Rattle.sock_words.specs.PackedWords.{socket_id_slot, socket_id_version, at_word, id_slot, id_first}
use Rattle.sock_model.specs.declared.chain.Entry.{Entry}
use Rattle.sock_model.specs.declared.chain.Heading.{Heading}
use Rattle.sock_model.specs.declared.view.View.{View}
use Rattle.sock_message.specs.Asked.{Asked, name_of}
use Rattle.seat_programs.specs.Cores.{Core}
use Rattle.seat_programs.specs.declared.task.Task.{Task}
use Rattle.seat_programs.specs.Explained.{AreTasks, Made}
use Rattle.seat_programs.specs.ExplainedCalls.{Accepted}
use Rattle.own_decisions.specs.Below.programs_allowed.specs.program_steps.specs.SoundSeats.{Sound, AllRest}
use Rattle.own_decisions.specs.Below.outcome_stories.specs.StoryStepCauses.{WasGiven}
use Rattle.own_decisions.specs.Below.outcome_stories.specs.KeptStory.{is_of_send, IsSpoken, Story}
use Rattle.own_decisions.specs.Below.outcome_stories.specs.OperationStories.{Event, In}
use Rattle.own_decisions.specs.Below.outcome_stories.proofs.Delivered.{orders_of}
use Rattle.own_decisions.specs.Below.outcome_causes.proofs.LivesByTask.{World, one_life, given_made}
use Rattle.own_decisions.specs.Below.outcome_stories.proofs.Members.{all_in}
use Rattle.own_decisions.specs.Below.outcome_causes.proofs.MessagesOfTasks.{in_of_at, each_made, message_of, number_of}
use Rattle.own_decisions.specs.Below.outcome_stories.proofs.SendersOfLogEntries.{HasSent, all_sent}
use Rattle.own_decisions.specs.accept_counts.specs.EndedCalls.{Store}
use Rattle.attempted_calls.proofs.EndedTrails.{Trail}
use Rattle.attempted_calls.proofs.RefusedNames as lives
use Rattle.attempted_calls.proofs.EndedNames.{IsNamed, IsOver, EntryOver, StoredFor, NameLaw}
use Rattle.own_decisions.specs.Below.programs_allowed.specs.program_walks.proofs.Recorded.{either_bool}

module _ (p : Plan) (clients : List (List Task)) (are : AreTasks p clients) (c : Core) (vs : List View) (es : List Event) (lost : List ℕ) (sound : Sound p c vs) (story : Story p clients true c vs es lost) (settled : AllRest c) where
  abbrev world : World p clients c.outcomes lost (orders_of p c vs sound.lawful) es
  world = lives.world p clients are c vs es lost sound story settled

  module _ (is_call : Asked → Type 0) (seen : List Store) where
    -- a socket that was stored under a name is that of a life of the name
    named_made : (n s : ℕ) → IsNamed is_call seen es (n, s) → (k : ℕ) × Made clients c.outcomes n k (socket_id_slot s) (socket_id_version s)
    named_made n s named = let x = lives.named_life p clients are c vs es lost sound story settled c vs es lost story (λ e m. m) n s named in (x.0, x.1)

    abbrev HasLife : Asked → ℕ → ℕ → Type 0
    HasLife asked n k = (slot version : ℕ) × Made clients c.outcomes (name_of asked n) k slot version

    -- a life was given one link
    one_link : (slot version k l : ℕ) → WasGiven es slot version k → WasGiven es slot version l → k ≡ l
    one_link slot version k l a b = let x = given_made p clients c.outcomes lost (orders_of p c vs sound.lawful) es world slot version k a in let y = given_made p clients c.outcomes lost (orders_of p c vs sound.lawful) es world slot version l b in
        (one_life p clients c.outcomes lost (orders_of p c vs sound.lawful) es world x.0 y.0 k l slot version x.1 y.1).1

    -- a socket with the name, over this link
    named_life : (asked : Asked) (n s link : ℕ) → IsNamed is_call seen es (name_of asked n, s) → WasGiven es (socket_id_slot s) (socket_id_version s) link → HasLife asked n link
    named_life asked n s link named given = let l = named_made (name_of asked n) s named in
        let x = given_made p clients c.outcomes lost (orders_of p c vs sound.lawful) es world (socket_id_slot s) (socket_id_version s) link given in
        let same : l.0 ≡ link = (one_life p clients c.outcomes lost (orders_of p c vs sound.lawful) es world (name_of asked n) x.0 l.0 link (socket_id_slot s) (socket_id_version s) l.1 x.1).1 in
        (socket_id_slot s, socket_id_version s, subst (λ z. Made clients c.outcomes (name_of asked n) z (socket_id_slot s) (socket_id_version s)) same l.1)

    -- so of an at word
    pub at_made : (o w : ℕ) → (x : StoredFor is_call seen es o w) → HasLife x.of.asked x.of.attempt x.of.link
    at_made o w x = named_life x.of.asked x.of.attempt x.socket x.of.link x.named x.given

    -- the at word was stored which tells this link
    abbrev HasStored : ℕ → ℕ → ℕ → ℕ → Type 0
    HasStored o owner n link = In (record { operation = o; word = at_word (id_first owner) (id_slot owner) link n }) seen

    over_made : (h : Heading) (link : ℕ) → IsOver is_call seen es h link → h.owner ≢ 0 → HasStored h.label.operation h.owner h.label.attempt link
    over_made h link over some_ = let a = over some_ in let same : a.6.0 ≡ link = one_link (socket_id_slot a.1) (socket_id_version a.1) a.6.0 link a.6.1 a.5 in
        subst (λ z. HasStored h.label.operation h.owner h.label.attempt z) same a.6.2

    module _ (ts : List Trail) (names : NameLaw is_call seen es c vs ts) (ids : ℕ → ℕ) (owned : (i n : ℕ) (e : Entry) → HasSent vs i n e → is_of_send e ≡ false → (e.heading.owner ≢ 0) × (ids e.heading.label.operation ≡ e.heading.owner)) where
      entry_over : (i n : ℕ) (e : Entry) → HasSent vs i n e → EntryOver is_call seen es e
      entry_over i n e h = let all = (names.views i h.view h.here).1 in let one : AllByRecursion (AllByRecursion (EntryOver is_call seen es)) (h.made ∷ []) = subst (AllByRecursion (AllByRecursion (EntryOver is_call seen es))) h.lists all in
          all_in (EntryOver is_call seen es) h.made e one.0 (in_of_at h.made n e h.stands)

      -- the at word of each message of a call that a link accepted was stored
      pub all_over : (k : ℕ) → AllByRecursion (λ (a : Accepted). IsSpoken clients a.operation → HasStored a.operation (ids a.operation) a.attempt k) (orders_of p c vs sound.lawful k).accepted
      all_over k = all_sent p c vs sound.lawful (each_made p clients are true c vs es lost sound story settled)
          (λ (a : Accepted). IsSpoken clients a.operation → HasStored a.operation (ids a.operation) a.attempt k) k
          (λ i n e h link. ⊎_elim
          (λ is. λ spoken. let x = message_of p clients are true c vs es lost sound story settled i n e h is in absurd (spoken i x.task x.asks (sym (number_of p clients are true c vs es lost sound story settled i e x))))
          (λ not_. λ spoken. let f = owned i n e h not_ in subst (λ z. HasStored e.heading.label.operation (ids e.heading.label.operation) e.heading.label.attempt z) link
          (subst (λ z. HasStored e.heading.label.operation z e.heading.label.attempt e.link) (sym f.1) (over_made e.heading e.link (entry_over i n e h) f.0)))
          (either_bool (is_of_send e)))

      -- and over the link of a life that its name had
      pub all_named : (k : ℕ) → AllByRecursion (λ (a : Accepted). IsSpoken clients a.operation → (asked : Asked) × is_call asked × (asked.operation ≡ a.operation) × (slot version : ℕ) × Made clients c.outcomes (name_of asked a.attempt) k slot version) (orders_of p c vs sound.lawful k).accepted
      all_named k = all_sent p c vs sound.lawful (each_made p clients are true c vs es lost sound story settled)
          (λ (a : Accepted). IsSpoken clients a.operation → (asked : Asked) × is_call asked × (asked.operation ≡ a.operation) × (slot version : ℕ) × Made clients c.outcomes (name_of asked a.attempt) k slot version) k
          (λ i n e h link. ⊎_elim
          (λ is. λ spoken. let x = message_of p clients are true c vs es lost sound story settled i n e h is in absurd (spoken i x.task x.asks (sym (number_of p clients are true c vs es lost sound story settled i e x))))
          (λ not_. λ spoken. let o = entry_over i n e h (owned i n e h not_).0 in let life = named_life o.0 e.heading.label.attempt o.1 e.link o.4 o.5 in
          (o.0, o.2, o.3, life.0, life.1, subst (λ z. Made clients c.outcomes (name_of o.0 e.heading.label.attempt) z life.0 life.1) link life.2))
          (either_bool (is_of_send e)))
