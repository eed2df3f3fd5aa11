-- Steps that leave what each link took and how many of its messages have places; and when a request is taken, or given back.
use Rattle.std.proofs.Common.{◌≡◌, ◌≢◌, ℕ, suc, ◌+◌, ◌*◌, ◌%◌, ◌<◌, ◌⊎◌, ⊎_elim, eqb, eqb-true, Bool, true, false, List, [], ◌∷◌, set, refl, sym, ap, ◌∙◌, subst, arith}
use Rattle.std.proofs.lemmas.Bool.{true≢false}
use Rattle.std.specs.List.{filter, flat_map}
use Rattle.std.specs.Prelude.{slice_index, not, ◌||◌}
use mathlib.Core.Option.{Option, some}
use lib.ListN.{get_elem?}
use Rattle.sock_words.specs.declared.plain.Plan.{Plan}
use Rattle.sock_model.specs.declared.chain.Entry.{Entry}
use Rattle.sock_model.specs.declared.chain.Right.{Right}
use Rattle.sock_model.specs.declared.chain.Stage.TheVariants.{Placed, Passes}
use Rattle.sock_model.specs.declared.home.Home.{Home}
use Rattle.sock_model.specs.declared.home.Home.TheVariants.{Message}
use Rattle.sock_model.specs.declared.view.View.{View}
use Rattle.sock_model.specs.declared.view.Hand.{Hand}
use Rattle.sock_model.specs.Entries.{on, nth, ticket}
use Rattle.sock_model.specs.LinkWritingState.{Held, InStage}
use Rattle.sock_model.specs.SocketTableLayout.{request_index}
use Rattle.sock_model.specs.ChainLawReads.{memory, tokens, rights_on, link_home, took_of, as_link, shown}
use Rattle.sock_model.specs.LawfulSockets.{Lawful}
use Rattle.chain_steps.proofs.Gather.{gather_same}
use Rattle.chain_steps.proofs.TicketLists.{at_some, filter_at, ticket_at_is}
use Rattle.chain_steps.proofs.UntouchedByChainSteps.{in_size}
use Rattle.chain_steps.proofs.ChainHeadSteps.{held_of, slot_is}
use Rattle.chain_steps.proofs.Frees.{generation_is}
use Rattle.atomic_table.proofs.Lists.{set_else}
use Rattle.sock_steps.proofs.RightSteps.{right_in, right_alone}
use Rattle.seat_programs.specs.TableSteps.{TableStep, OnChain, OnLink, OnMessage, TakeLink, PutLink, PutMessage, FreeRequest}
use Rattle.seat_programs.specs.Cores.{Core, homes_after}
use Rattle.seat_programs.specs.StepTables.{row}
use Rattle.seat_programs.specs.StepTables.{May}
use Rattle.sock_runs.specs.program_steps.specs.SoundSeats.{state}
use Rattle.sock_runs.specs.program_steps.proofs.Leaves.{moves_right, moves_hand, rights_stay, hands_stay}
use Rattle.message_events.specs.MessageModel.{IsOrder, MayCome, Claim, Free}
use Rattle.message_events.specs.MessageStanding.{hands_on, by_home, by_rights, stand, messages}
use Rattle.sock_words.specs.PackedWords.{ticket_request, ticket_generation}

-- ## Steps that leave rights and hands

-- neither rights nor hands of a view change
abbrev pub SameStand : View → View → Type 0
SameStand v w = (w.rights ≡ v.rights) × (w.hands ≡ v.hands)

-- the rights tell, or what tells without one is the same
pub same_rights : (rs : List Right) (home home' : Option (List ℕ × ℕ)) (hs hs' : List Hand) → by_home home' hs' ≡ by_home home hs → by_rights rs home' hs' ≡ by_rights rs home hs
same_rights [] home home' hs hs' e = e
same_rights (r ∷ rs) home home' hs hs' e = refl

module _ (p : Plan) (c c' : Core) (views : List View) (i : ℕ) (v : View) (at : get_elem? views i ≡ some v) where
  -- where the rights on the link stay, and what tells without one
  pub stand_of : (w : View) (k : ℕ) → rights_on k w ≡ rights_on k v
      → by_home (link_home (λ home. home) p c'.homes k) (flat_map (hands_on k) (set views i w)) ≡ by_home (link_home (λ home. home) p c.homes k) (flat_map (hands_on k) views)
      → stand p c' (set views i w) k ≡ stand p c views k
  stand_of w k rights e = ap (λ rs. by_rights rs (link_home (λ home. home) p c'.homes k) (flat_map (hands_on k) (set views i w))) (gather_same (rights_on k) views i v w at rights)
      ∙ same_rights ((tokens views).rights k) (link_home (λ home. home) p c.homes k) (link_home (λ home. home) p c'.homes k) (flat_map (hands_on k) views) (flat_map (hands_on k) (set views i w)) e

  -- where the rights and hands on the link stay, and its home
  pub stand_on : (w : View) (k : ℕ) → rights_on k w ≡ rights_on k v → hands_on k w ≡ hands_on k v → link_home (λ home. home) p c'.homes k ≡ link_home (λ home. home) p c.homes k → stand p c' (set views i w) k ≡ stand p c views k
  stand_on w k rights hands home = stand_of w k rights
      (ap (λ hs. by_home (link_home (λ home. home) p c'.homes k) hs) (gather_same (hands_on k) views i v w at hands) ∙ ap (λ h. by_home h (flat_map (hands_on k) views)) home)

  pub stand_same : (w : View) (k : ℕ) → SameStand v w → link_home (λ home. home) p c'.homes k ≡ link_home (λ home. home) p c.homes k → stand p c' (set views i w) k ≡ stand p c views k
  stand_same w k same home = stand_on w k (ap (filter (λ (x : Right). eqb x.link k)) same.0) (ap (filter (λ (x : Hand). eqb x.link k)) same.1) home

-- whether a step leaves rights, hands and links
abbrev pub leaves_links : TableStep → Bool
leaves_links call = not (moves_hand call || moves_right call)

neither : (a b : Bool) → not (a || b) ≡ true → (a ≡ false) × (b ≡ false)
neither false false is = (refl, refl)
neither false true is = absurd (true≢false (sym is))
neither true b is = absurd (true≢false (sym is))

pub row_same : (p : Plan) (v : View) (found : ℕ) (hand : Hand) (call : TableStep) → leaves_links call ≡ true → SameStand v (row p call found hand v)
row_same p v found hand call is = let still = neither (moves_hand call) (moves_right call) is in (rights_stay p v found hand call still.1, hands_stay p v found hand call still.0)

-- the home of a request is none of a link
pub home_else : (p : Plan) (homes : List (Option Home)) (q k : ℕ) (x : Option Home) → q ≢ p.requests + k → link_home (λ home. home) p (set homes q x) k ≡ link_home (λ home. home) p homes k
home_else p homes q k x ne = ap (λ y. took_of (as_link (shown (λ (home : Home). home) y))) (set_else homes q (p.requests + k) x (λ e. ne (sym e)))

pub homes_same : (p : Plan) (v : View) (homes : List (Option Home)) (hand : List Home) (call : TableStep) → May p v call → leaves_links call ≡ true → (k : ℕ) → link_home (λ home. home) p (homes_after p call hand homes) k ≡ link_home (λ home. home) p homes k
homes_same p v homes hand (OnMessage (PutMessage q heading bytes)) may is k = let low = may.0 in home_else p homes q k (some (Message heading bytes)) (λ e. omega (arith, low, e))
homes_same p v homes hand (OnLink (TakeLink k)) may is j = absurd (true≢false (sym is))
homes_same p v homes hand (OnLink (PutLink k)) may is j = absurd (true≢false (sym is))
homes_same p v homes hand _ may is k = refl

-- each such step leaves how each link stands
pub stand_stays : (p : Plan) (c c' : Core) (views : List View) (i : ℕ) (v : View) → get_elem? views i ≡ some v → (call : TableStep) (found : ℕ) (hand : Hand) (in_hand : List Home) → May p v call → leaves_links call ≡ true
    → c'.homes ≡ homes_after p call in_hand c.homes → (k : ℕ) → stand p c' (set views i (row p call found hand v)) k ≡ stand p c views k
stand_stays p c c' views i v at call found hand in_hand may is homes k = stand_same p c c' views i v at (row p call found hand v) k (row_same p v found hand call is)
    (ap (λ hs. link_home (λ home. home) p hs k) homes ∙ homes_same p v c.homes in_hand call may is k)

-- ## When a request is taken, and when it is given back

pub claim_may : (p : Plan) (c : Core) (views : List View) (q : ℕ) → slice_index c.words (request_index p q) % 2 ≡ 0 → MayCome (messages p c views) (Claim q)
claim_may p c views q even = even

-- the entry whose request is given back: it stands there, and has its place
pub record Freed (p : Plan) (c : Core) (views : List View) (log : List Entry) (k q g : ℕ) : Type 0 where
  pub entry : Entry
  pub place : ℕ
  pub here : get_elem? (on k log) place ≡ some entry
  pub placed : place < (stand p c views k).placed
  pub link_is : entry.link ≡ k
  pub request_is : entry.request ≡ q
  pub generation_is : entry.generation ≡ g
  pub word : slice_index c.words (request_index p q) ≡ 2 * g + 1

module _ (p : Plan) (c : Core) (views : List View) (o : Lawful (λ home. home) p (state c views)) (i : ℕ) (v : View) (at : get_elem? views i ≡ some v) where
  module _ (r : Right) (one : v.rights ≡ r ∷ []) where
    kl : r.link < p.links
    kl = right_in o i 0 v r at (ap (λ l. get_elem? l 0) one)

    alone : (tokens views).rights r.link ≡ r ∷ []
    alone = right_alone o i 0 v r at (ap (λ l. get_elem? l 0) one)

    held : Held (memory p o.slot c.words) (tokens views) (on r.link o.log) (o.freed r.link) (o.places r.link) r
    held = (held_of o.chains r.link r kl alone).1

    -- a right tells how many messages have places
    pub placed_is : (stand p c views r.link).placed ≡ o.places r.link
    placed_is = ap (λ rs. (by_rights rs (link_home (λ home. home) p c.homes r.link) (flat_map (hands_on r.link) views)).placed) alone ∙ o.delivered.counted r.link r kl alone

    freed_here : (now : ℕ) → o.places r.link ≡ suc (o.freed r.link) → o.freed r.link < held.counts.noted → nth (on r.link o.log) (suc (o.freed r.link)) ≡ now → Freed p c views o.log r.link (ticket_request now) (ticket_generation now)
    freed_here now more few is = let f = held.fits in let e = at_some (on r.link o.log) (o.freed r.link) (omega (arith, f.1, f.2, f.3, few)) in
        let size = in_size o.chains r.link (o.freed r.link) e.0 e.1 in let narrow = o.fits.narrow in let z = size.1 in let small : e.0.request < 65535 = omega (arith, z, narrow) in
        let tick : ticket e.0 ≡ now = sym (ticket_at_is (on r.link o.log) (o.freed r.link) e.0 e.1) ∙ is in
        let slot : e.0.request ≡ ticket_request now = sym (slot_is e.0 small) ∙ ap ticket_request tick in
        let generation : e.0.generation ≡ ticket_generation now = sym (generation_is e.0 small size.2) ∙ ap ticket_generation tick in
        let live = (o.chains.live r.link (o.freed r.link) e.0 (omega arith) e.1).0 in record {
          entry = e.0;
          place = o.freed r.link;
          here = e.1;
          placed = omega (arith, placed_is, more);
          link_is = (let a = filter_at (λ (d : Entry). eqb d.link r.link) o.log (o.freed r.link) e.0 e.1 in eqb-true e.0.link r.link a.2);
          request_is = slot;
          generation_is = generation;
          word = ap (λ x. slice_index c.words (request_index p x)) (sym slot) ∙ (live ∙ ap (λ x. 2 * x + 1) generation);
        }

    freed_at : (now : ℕ) → ((r.stage ≡ Placed now) × (now ≡ r.last)) ⊎ ((next : ℕ) × (r.stage ≡ Passes now next)) → Freed p c views o.log r.link (ticket_request now) (ticket_generation now)
    freed_at now x = ⊎_elim
        (λ a. let st : InStage (memory p o.slot c.words) (tokens views) (on r.link o.log) held.counts (o.freed r.link) (o.places r.link) (Placed now) = subst (InStage (memory p o.slot c.words) (tokens views) (on r.link o.log) held.counts (o.freed r.link) (o.places r.link)) a.0 held.stage_is in
        freed_here now st.1 st.2 st.3)
        (λ a. let st : InStage (memory p o.slot c.words) (tokens views) (on r.link o.log) held.counts (o.freed r.link) (o.places r.link) (Passes now a.0) = subst (InStage (memory p o.slot c.words) (tokens views) (on r.link o.log) held.counts (o.freed r.link) (o.places r.link)) a.1 held.stage_is in
        let some_ = st.2 in freed_here now st.1 (omega (arith, some_)) st.3)
        x

  pub freed_entry : (q g : ℕ) → (may : May p v (OnChain (FreeRequest q g))) → Freed p c views o.log may.4.0.link q g
  freed_entry q g may = subst (λ x. Freed p c views o.log may.4.0.link x g) may.1 (subst (λ x. Freed p c views o.log may.4.0.link (ticket_request may.0) x) may.2 (freed_at may.4.0 may.4.1 may.0 may.4.2))

  -- the word of the request is the one that goes
  pub free_word : (q g : ℕ) → May p v (OnChain (FreeRequest q g)) → slice_index c.words (request_index p q) ≡ 2 * g + 1
  free_word q g may = (freed_entry q g may).word

  pub free_may : ((k : ℕ) → IsOrder (messages p c views) k (on k o.log)) → (q g : ℕ) → May p v (OnChain (FreeRequest q g)) → MayCome (messages p c views) (Free q)
  free_may order q g may = let k : ℕ = may.4.0.link in let f = freed_entry q g may in (
    on k o.log,
    f.entry,
    f.place,
    subst (λ x. IsOrder (messages p c views) x (on k o.log)) (sym f.link_is) (order k),
    f.here,
    subst (λ x. f.place < (stand p c views x).placed) (sym f.link_is) f.placed,
    f.request_is,
    f.word ∙ ap (λ x. 2 * x + 1) (sym f.generation_is),
  )
