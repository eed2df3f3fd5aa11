-- What holds behind a message that is sent, or behind the loops of whoever writes a link, holds before it.
use Rattle.std.proofs.Common.{ℕ, zero, suc, ◌+◌, ◌-◌, ◌/◌, ◌%◌, ◌==◌, nat_lt, nat_le, true, false, cond, List, [], ◌∷◌, length, drop, refl}
use Rattle.sock_words.specs.PackedWords.{socket_id_version, socket_id_slot, vref_version, ticket_request, ticket_generation, IDLE, UNCONNECTED, NO_SOCKET}
use Rattle.sock_words.specs.declared.outcome.Outcome.TheVariants.{Unopened, Gone, Full}
use Rattle.seat_programs.specs.sock_io.specs.declared.link.Put.{Put}
use Rattle.seat_programs.specs.sock_io.specs.declared.link.Put.TheVariants as puts
use Rattle.seat_programs.specs.sock_io.specs.declared.link.Ready.{Ready}
use Rattle.seat_programs.specs.sock_io.specs.declared.link.Ready.TheVariants as asks
use Rattle.sock_model.specs.declared.chain.Heading.{Heading}
use Rattle.sock_model.specs.Entries.{ticket_of}
use Rattle.sock_steps.proofs.SumsAsMarksChange.{either_way}
use Rattle.seat_programs.specs.TableSteps.{OnSlot, OnChain, OnPlace, OnMessage, LookWord, FindLink, LoadCode, ClaimRequest, PutMessage, Unconnect, SwapHead, Connect, ReadNext, ReverseNext, FreeRequest, StorePlace, DropPlace}
use Rattle.seat_programs.specs.Writings.{Holder, Writing, Puts, Waits, Empties, Reversing}
use Rattle.seat_programs.specs.Programs.{Program, Sent, Rest, TakeMessage, TakeHome, Write, LAST_GENERATION, release, add_reference, set_failed, end_open}
use Rattle.seat_programs.specs.SendAndWritePrograms.{freed, one_more, passed_telling, tell_drop, placed, dropped, link_failed, put_answered, ready_answered, block, first_put, write_link, heading_of, accept, claim_from, start, send}
use Rattle.seat_programs.specs.ClientProgram.{ending_of}
use Rattle.program_walks.proofs.Through.{PassesWords, PassesPlain, PassesFails, PassesLinks, PassesSends, PassesOpens, through_release, through_address, through_reach}
use Rattle.program_walks.proofs.ThroughLoops.{through_post}

-- where H holds behind the writing
module _ (G H : Program → Type 0) (g : PassesPlain G) (l : PassesLinks G H) where
  -- one round of whoever writes a link
  through_freed : (now : ℕ) (next : Program) → G next → G (freed now next)
  through_freed now next after = either_way (ticket_generation now == LAST_GENERATION) _ _ G after (g.words.step (OnChain (FreeRequest (ticket_request now) (ticket_generation now))) _ refl (λ _. after))

  through_passed : (h : Holder) (now : ℕ) (tells : Program → Program) → ((x : Program) → G x → G (tells x)) → (next : Program) → H next → G (passed_telling h now tells next)
  through_passed h now tells told next after = either_way (now == h.last) _ _ G (through_freed now (tells (Write (Empties h) next)) (told (Write (Empties h) next) (l.write (Empties h) next after)))
      (g.words.step (OnChain (ReadNext (ticket_request now))) _ refl (λ found. through_freed now (tells (TakeMessage (ticket_request found) (λ heading bytes. Write (Puts h found heading bytes 0 false) next)))
      (told (TakeMessage (ticket_request found) (λ heading bytes. Write (Puts h found heading bytes 0 false) next)) (l.message (ticket_request found) _ (λ heading bytes. l.write (Puts h found heading bytes 0 false) next after)))))

  through_tell : (heading : Heading) (c : ℕ) (next : Program) → G next → G (tell_drop heading c next)
  through_tell heading c next after = either_way (heading.owner == 0) _ _ G after (through_post G g.errors heading.owner (cond (c == 0) 1009 c) heading.label.attempt next after)

  through_placed : (h : Holder) (now : ℕ) (heading : Heading) (next : Program) → H next → G (placed h now heading next)
  through_placed h now heading next after = g.words.step (OnPlace (StorePlace heading.label.place h.link h.places)) _ refl (λ _. through_passed (one_more h) now (λ x. x) (λ x y. y) next after)

  through_dropped : (h : Holder) (now : ℕ) (heading : Heading) (next : Program) → H next → G (dropped h now heading next)
  through_dropped h now heading next after = g.words.step (OnSlot (LoadCode (socket_id_slot h.id) (socket_id_version h.id))) _ refl (λ c. g.words.step (OnPlace (DropPlace heading.label.place h.link h.places)) _ refl (λ _. through_passed (one_more h) now (tell_drop heading c) (λ x y. through_tell heading c x y) next after))

  through_link_failed : (h : Holder) (next : Program) → G next → G (link_failed h next)
  through_link_failed h next after = l.fails h.id (λ _. next) (λ _. after)

  through_put : (h : Holder) (now : ℕ) (heading : Heading) (left : List ℕ) (taken : ℕ) (next : Program) → H next → (answer : Put) → G (put_answered h now heading left taken next answer)
  through_put h now heading left taken next after (puts.Took n) = either_way (nat_le (length left) n) _ _ G (through_placed h now heading next after) (l.write (Puts h now heading (drop n left) (taken + n) false) next after)
  through_put h now heading left taken next after puts.Again = l.write (Waits h now heading left taken) next after
  through_put h now heading left taken next after puts.Failed = through_link_failed h _ (l.write (Puts h now heading left taken false) next after)

  through_ready : (h : Holder) (now : ℕ) (heading : Heading) (left : List ℕ) (taken : ℕ) (next : Program) → H next → (answer : Ready) → G (ready_answered h now heading left taken next answer)
  through_ready h now heading left taken next after asks.Now = l.write (Puts h now heading left taken true) next after
  through_ready h now heading left taken next after asks.NotYet = l.write (Waits h now heading left taken) next after
  through_ready h now heading left taken next after asks.Failed = through_link_failed h _ (l.write (Puts h now heading left taken false) next after)

  pub through_block : (w : Writing) (next : Program) → H next → G (block w next)
  through_block (Puts h now heading left taken asked) next after = l.look h.id _ (λ found. either_way (vref_version found % 2 == 0) _ _ G
      (l.put h.link asked _ (put_answered h now heading left taken next) (through_put h now heading left taken next after)) (through_dropped h now heading next after))
  through_block (Waits h now heading left taken) next after = l.ask h.link (ready_answered h now heading left taken next) (through_ready h now heading left taken next after)
  through_block (Empties h) next after = l.puts_home h.link h.places _ (l.empty (socket_id_slot h.id) h.last next (λ found. TakeHome h.link (λ places. Write (Reversing (record h { places = places }) found found 0) next))
      after (λ found. l.home h.link _ (λ places. l.write (Reversing (record h { places = places }) found found 0) next after)))
  through_block (Reversing h top at after_) next after = g.words.step (OnChain (ReadNext (ticket_request at))) _ refl (λ found. either_way (found == UNCONNECTED) _ _ G (l.write (Reversing h top at after_) next after)
      (g.words.step (OnChain (ReverseNext (ticket_request at) after_)) _ refl (λ _. either_way (found == h.last) _ _ G
      (l.message (ticket_request at) _ (λ heading bytes. l.write (Puts (record h { last = top }) at heading bytes 0 false) next after)) (l.write (Reversing h top found at) next after))))

  -- whoever found an idle head
  pub through_first_put : (h : Holder) (now : ℕ) (heading : Heading) (bytes : List ℕ) (next : Program) → H next → G (first_put h now heading bytes next)
  through_first_put h now heading bytes next after = l.look h.id _ (λ found. either_way (vref_version found % 2 == 0) _ _ G
      (l.put h.link false _ (put_answered h now heading bytes 0 next) (through_put h now heading bytes 0 next after)) (l.write (Puts h now heading bytes 0 false) next after))

  pub through_write_link : (id q own : ℕ) (next : Program) → H next → G (write_link id q own next)
  through_write_link id q own next after = g.words.step (OnSlot (FindLink (socket_id_slot id) (socket_id_version id))) _ refl (λ k. l.home k _ (λ places. l.message q _ (λ heading bytes.
      through_first_put (record { id = id; link = k; last = own; places = places }) own heading bytes next after)))

-- a message that is sent
module _ (G : Program → Type 0) (s : PassesSends G) where
  pub through_accept : (id q n : ℕ) (heading : Heading) (bytes : List ℕ) (next : Program) → G next → G (accept id q n heading bytes next)
  through_accept id q n heading bytes next after = s.step (OnMessage (PutMessage q heading bytes)) _ refl (λ _. s.plain.words.step (OnChain (Unconnect q)) _ refl (λ _. s.step (OnChain (SwapHead (socket_id_slot id) (ticket_of q n))) _ refl (λ found.
      either_way (nat_lt found IDLE) _ _ G (s.plain.words.step (OnChain (Connect q found)) _ refl (λ _. after)) (through_write_link G G s.plain s.links id q (ticket_of q n) next after))))

  through_claim : (more q o id : ℕ) (bytes : List ℕ) (next : Program) → G next → G (claim_from more q o id bytes next)
  through_claim zero q o id bytes next after = through_release G s.plain.words (socket_id_slot id) _ (λ _. s.plain.words.say o Full next after)
  through_claim (suc more) q o id bytes next after = s.step (OnChain (ClaimRequest id q)) _ refl (λ found. either_way (found % 2 == 0) _ _ G
      (through_accept id q (found / 2) (heading_of o) bytes _ (through_release G s.plain.words (socket_id_slot id) (λ _. Sent o next) (λ _. s.sent o next after))) (through_claim more (q + 1) o id bytes next after))

  through_start : (requests o id : ℕ) (bytes : List ℕ) (next : Program) → G next → G (start requests o id bytes next)
  through_start requests o id bytes next after = s.step (OnSlot (LookWord id)) _ refl (λ found. either_way (vref_version found % 2 == 0) _ _ G (through_claim requests 0 o id bytes next after)
      (through_release G s.plain.words (socket_id_slot id) _ (λ _. s.plain.words.say o (Gone (record { 0 = found })) next after)))

  pub through_send : (requests o name : ℕ) (bytes : List ℕ) (next : Program) → G next → G (send requests o name bytes next)
  through_send requests o name bytes next after = through_reach G s.plain.words name _ _ _ (s.plain.words.say o Unopened next after) (λ id. through_start requests o id bytes next after) (λ found. s.plain.words.say o (Gone (record { 0 = found })) next after)

-- of an ending
module _ (G : Program → Type 0) (g : PassesWords G) (fails : PassesFails G 1014) where
  -- what follows the load of the word
  pub through_ended : (word : ℕ) (next : Program) → G next → G (cond (word == 0) next (cond (word == NO_SOCKET) next (add_reference (word - 1) (set_failed (word - 1) 1014 (λ _. release (socket_id_slot (word - 1)) (λ _. next))) (λ _. next))))
  through_ended word next after = either_way (word == 0) _ _ G after (either_way (word == NO_SOCKET) _ _ G after
      (through_address G g (word - 1) _ _ (fails (word - 1) _ (λ _. through_release G g (socket_id_slot (word - 1)) _ (λ _. after))) (λ _. after)))

  pub through_end : PassesOpens G → (o : ℕ) (next : Program) → G next → G (end_open o next)
  through_end w o next after = w.load o _ (λ word. through_ended word next after)

  pub through_ending : PassesOpens G → G Rest → (os : List ℕ) → G (ending_of os)
  through_ending w rests [] = rests
  through_ending w rests (o ∷ os) = through_end w o (ending_of os) (through_ending w rests os)
