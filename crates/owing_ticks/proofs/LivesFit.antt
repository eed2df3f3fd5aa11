-- What the rule of the sockets says of a step is what those who owe rely on, where the ids of the links' lives are as the words of their `open`s say.
use Rattle.std.proofs.Common.{◌≡◌, ◌≢◌, ℕ, ◌%◌, ◌<◌, Bool, true, false, take, get_or, List, [], ◌∷◌, ◌++◌, Option, Some, sym, ap, ◌∙◌, subst, arith}
use mathlib.Core.Option.{some, some-ne-none, some-injective}
use lib.ListN.{get_elem?}
use Rattle.sock_words.specs.PackedWords.{socket_id_version, socket_id_slot, vref_version}
use Rattle.sock_words.specs.declared.plain.Plan.{Plan}
use Rattle.sock_model.specs.declared.chain.Right.{Right}
use Rattle.sock_model.specs.declared.home.Home.{Home}
use Rattle.sock_model.specs.declared.home.Home.TheVariants.{Link, Message}
use Rattle.sock_model.specs.declared.view.View.{View}
use Rattle.sock_model.specs.declared.view.Hand.{Hand}
use Rattle.sock_model.specs.SocketTableLayout.{ref_index}
use Rattle.sock_model.specs.MarkWeights.{is_born}
use Rattle.sock_model.specs.SocketSlotLaw.{count}
use Rattle.sock_model.specs.References.{slot_facts}
use Rattle.seat_programs.specs.TableSteps.{TableStep, OnSlot, SetOdd}
use Rattle.seat_programs.specs.Cores.{Core, found_at, words_after, first_of}
use Rattle.seat_programs.specs.StepTables.{word_of, word_after}
use Rattle.seat_programs.specs.StepTables.{May}
use Rattle.call_owing.specs.Below.programs_allowed.specs.program_steps.specs.SoundSeats.{state, Sound, AreInHand, AreHeld, IsOfRight}
use Rattle.call_owing.specs.Below.programs_allowed.specs.sock_runs.proofs.SlotVersionsRise.{versions_on, odd_past, other_past, look_holds}
use Rattle.call_owing.specs.Owing.{Owing, FindsCall}
use Rattle.call_owing.specs.OwingStepFits.{CallFits, HoldsNoMessage}

-- what a seat has in hand are links
in_hand_link : (hand : List Home) (hands : List Hand) → AreInHand hand hands → HoldsNoMessage hand
in_hand_link [] hands are heading bytes e = some-ne-none (Message heading bytes) (sym e)
in_hand_link (x ∷ xs) [] are heading bytes e = are
in_hand_link (x ∷ xs) (h ∷ hs) are heading bytes e = let z : Link h.link h.took h.next are.0.0 ≡ Message heading bytes = sym are.0.1 ∙ some-injective x (Message heading bytes) e in cc

pub holds_links : (hand : List Home) (rights : List Right) (hands : List Hand) → AreHeld hand rights hands → HoldsNoMessage hand
holds_links hand [] hands are = in_hand_link hand hands are
holds_links hand (r ∷ rs) hands are = by_home r.at_home (λ other. holds_links hand rs hands other) are
  where
    by_home : (b : Bool) → (AreHeld hand rs hands → HoldsNoMessage hand) → elim b as (λ b. Type 0) [
      | true ↦ AreHeld hand rs hands
      | false ↦ (x : Home) × (others : List Home) × (hand ≡ x ∷ others) × IsOfRight r x × AreHeld others rs hands
    ] → HoldsNoMessage hand
    by_home true later are = later are
    by_home false later are = λ heading bytes e. let x = are.0 in let first : first_of hand ≡ some are.0 = ap first_of are.2 in
        let z : Link r.link (r.sent ++ take r.put r.bytes) are.3.0 false ≡ Message heading bytes = sym are.3.1 ∙ some-injective are.0 (Message heading bytes) (sym first ∙ e) in cc

module _ (p : Plan) (life : ℕ → Option ℕ) (inside : (k s : ℕ) → life k ≡ Some s → socket_id_slot s < p.slots) (c : Core) (vs : List View) (sound : Sound p c vs) (i : ℕ) (v : View) (at : get_elem? vs i ≡ some v) (u : Owing) (call : TableStep) (may : May p v call) where
  -- of the lives of links it has to be known what is found of them, and that a reader sets none odd that wasn't made
  pub lives_fit : FindsCall life u call (found_at c.words (word_of p call))
      → ((k s : ℕ) → call ≡ OnSlot (SetOdd (socket_id_slot s)) → u.link ≡ k ∷ [] → life k ≡ Some s → 0 < count (is_born (socket_id_version s)) (slot_facts (state c vs) (socket_id_slot s)))
      → CallFits p life c u call
  lives_fit finds born = record {
    finds = finds;
    failed = λ k f s lives. let a = f s lives in let b = versions_on p c vs sound i v at call may (socket_id_slot s) (inside k s lives) in omega (arith, a, b);
    odd = λ k s is linked lives t also. let same : s ≡ t = (let z : Some s ≡ Some t = sym lives ∙ also in cc) in let o = odd_past p c vs sound i v at (socket_id_slot s) (socket_id_version s) (inside k s lives) (born k s is linked lives) in
        subst (λ x. socket_id_version x < vref_version (get_or (words_after c.words (word_of p call) (word_after call (found_at c.words (word_of p call)))) (ref_index (socket_id_slot x)) 0)) same
        (subst (λ y. socket_id_version s < vref_version (get_or (words_after c.words (word_of p y) (word_after y (found_at c.words (word_of p y)))) (ref_index (socket_id_slot s)) 0)) (sym is) o);
    other = λ k s is linked lives far t also. let same : s ≡ t = (let z : Some s ≡ Some t = sym lives ∙ also in cc) in
        let o = other_past p c vs sound i v at s (subst (May p v) is may) (subst (λ y. vref_version (found_at c.words (word_of p y)) ≢ socket_id_version s) is far) in
        subst (λ x. socket_id_version x < vref_version (get_or (words_after c.words (word_of p call) (word_after call (found_at c.words (word_of p call)))) (ref_index (socket_id_slot x)) 0)) same
        (subst (λ y. socket_id_version s < vref_version (get_or (words_after c.words (word_of p y) (word_after y (found_at c.words (word_of p y)))) (ref_index (socket_id_slot s)) 0)) (sym is) o);
    live = λ k s is lives even f. let e = look_holds p c vs sound i v at s (subst (May p v) is may) (subst (λ y. vref_version (found_at c.words (word_of p y)) % 2 ≡ 0) is even) in let far = f s lives in omega (arith, e, far);
  }
