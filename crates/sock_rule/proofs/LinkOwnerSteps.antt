-- The steps of whoever writes a link, by the plan that a table keeps beside its key.
use Rattle.std.proofs.Common.{◌≡◌, ℕ, ◌+◌, ◌*◌, ◌%◌, ◌<◌, true, false, List, [], ◌∷◌, eqb, sym, ap, ◌∙◌, subst, refl}
use mathlib.Core.Logic.{dite}
use mathlib.Core.Option.{none}
use native.Mathlib.Decide.{ℕ_discrete}
use prog.Atomic.{either}
use Rattle.atomic_table.specs.Table.{Me, step, rest, Allows}
use Rattle.atomic_table.specs.Seated.{TableId}
use Rattle.atomic_table.specs.declared.shared.Seat.{Seat}
use Rattle.sock_words.specs.declared.plain.Plan.{Plan}
use Rattle.sock_model.specs.declared.chain.Right.{Right}
use Rattle.sock_model.specs.declared.chain.Stage.{Stage}
use Rattle.sock_model.specs.declared.home.Home.{Home}
use Rattle.sock_model.specs.declared.home.Home.TheVariants as home
use Rattle.sock_model.specs.declared.view.View.{View}
use Rattle.sock_model.specs.SocketTableLayout.{ref_index, head_index, request_index, next_index, place_index}
use Rattle.chain_core.specs.chain_steps.proofs.Frees.{Leads, to_end, to_next}
use Rattle.sock_rule.specs.LinkFaultNotes.{faults_of}
use Rattle.sock_rule.specs.OnTable.{OnTable}
use Rattle.sock_rule.specs.SocketSeatSplits.{IsSeat}
use Rattle.sock_rule.specs.HoldingWriteRight.{MayLookToWrite, LookedToWrite, MayStorePlace, MayDropPlace, Follows, ends, goes_on, MayFreeRequest, MayEmptyHead, Emptied, MayReadOn, MayReadBack, ReadBack, MayTurnNext}
use Rattle.sock_rule.specs.ChainPlays.{took_in, clean_told, place_told, drop_told, free_request_told, put_own_told, empty_told, read_next_told, turn_told}
use Rattle.sock_rule.proofs.HoldingWriteRight.{looks_clean, places, drops, frees, retires, puts_own, empties, reads_on, reads_back, turns}
use Rattle.sock_rule.proofs.SeatStaysInTable.{still_seat}
use Rattle.sock_words.specs.PackedWords.{place_word, ticket_request, ticket_generation, vref_version, IDLE, UNCONNECTED}

leads_by : (last now : ℕ) (a b : Stage) → Follows last a now b → Leads last a now b
leads_by last now a b (ends _ e) = to_end now e
leads_by last now a b (goes_on _ next) = to_next now next

module _ {S : Type 0} (shows : S → Home) (rose : S → ℕ) (q p : Plan) (slots id : ℕ) (me : Me S View) (mine : me.0.plan ≡ p) (some_ : 0 < me.0.share) (key : q ≡ p) where
  pub looks_on : (i word : ℕ) → word ≡ ref_index i → MayLookToWrite p i me.0 → Allows (OnTable shows rose q) slots id me word (λ n. n) (clean_told (step slots word 0 0 none) me)
  looks_on i word e m = subst (λ (x : ℕ). Allows (OnTable shows rose q) slots id me x (λ n. n) (clean_told (step slots x 0 0 none) me)) (sym e)
      (subst (λ (z : Plan). Allows (OnTable shows rose z) slots id me (ref_index i) (λ n. n) (clean_told (step slots (ref_index i) 0 0 none) me)) (sym key) (looks_clean shows rose p slots id me mine some_ m.right m.one i m.life m.holds))

  pub places_on : (l k n word value : ℕ) → word ≡ place_index p l → value ≡ place_word false k n → MayStorePlace p l k n me.0 → Allows (OnTable shows rose q) slots id me word (λ _. value) (λ _. place_told (step slots word value 0 none) me value)
  places_on l k n word value e v m = let t = m.placing in
      let same_word : place_index p t.right.heading.label.place ≡ word = ap (place_index p) t.place_is ∙ sym e in let same_value : place_word false t.right.link t.right.places ≡ value = (λ i. place_word false (t.link_is i) (t.places_are i)) ∙ sym v in
      subst (λ (y : ℕ). Allows (OnTable shows rose q) slots id me word (λ _. y) (λ _. place_told (step slots word y 0 none) me y)) same_value
      (subst (λ (x : ℕ). Allows (OnTable shows rose q) slots id me x (λ _. place_word false t.right.link t.right.places) (λ _. place_told (step slots x (place_word false t.right.link t.right.places) 0 none) me (place_word false t.right.link t.right.places))) same_word
      (subst (λ (z : Plan). Allows (OnTable shows rose z) slots id me (place_index p t.right.heading.label.place) (λ _. place_word false t.right.link t.right.places) (λ _. place_told (step slots (place_index p t.right.heading.label.place) (place_word false t.right.link t.right.places) 0 none) me (place_word false t.right.link t.right.places))) (sym key)
      (places shows rose p slots id me mine some_ t.right t.one t.now t.stage t.taken m.clean t.away (subst (λ (x : ℕ). x < 8 * p.operations) (sym t.place_is) t.place_in) (subst (λ (x : ℕ). x < 65536) (sym t.link_is) m.link_fits))))

  pub frees_on : (now word value : ℕ) → word ≡ request_index p (ticket_request now) → value ≡ 2 * (ticket_generation now + 1) → ticket_generation now < 140737488355327 → MayFreeRequest now me → Allows (OnTable shows rose q) slots id me word (λ _. value) (λ _. free_request_told (step slots word value 0 none) me value)
  frees_on now word value e v small m = subst (λ (y : ℕ). Allows (OnTable shows rose q) slots id me word (λ _. y) (λ _. free_request_told (step slots word y 0 none) me y)) (sym v)
      (subst (λ (x : ℕ). Allows (OnTable shows rose q) slots id me x (λ _. 2 * (ticket_generation now + 1)) (λ _. free_request_told (step slots x (2 * (ticket_generation now + 1)) 0 none) me (2 * (ticket_generation now + 1)))) (sym e)
      (subst (λ (z : Plan). Allows (OnTable shows rose z) slots id me (request_index p (ticket_request now)) (λ _. 2 * (ticket_generation now + 1)) (λ _. free_request_told (step slots (request_index p (ticket_request now)) (2 * (ticket_generation now + 1)) 0 none) me (2 * (ticket_generation now + 1)))) (sym key)
      (frees shows rose p slots id me mine some_ m.right m.one now m.next m.value (rest me.1) (leads_by m.right.last now m.right.stage m.next m.follows) small m.home)))

  pub retires_on : (now word : ℕ) → ticket_generation now ≡ 140737488355327 → MayFreeRequest now me → Allows (OnTable shows rose q) slots id me word (λ n. n) (free_request_told (step slots word 0 0 none) me)
  retires_on now word last_one m = subst (λ (z : Plan). Allows (OnTable shows rose z) slots id me word (λ n. n) (free_request_told (step slots word 0 0 none) me)) (sym key)
      (retires shows rose p slots id me mine some_ m.right m.one word now m.next m.value (rest me.1) (leads_by m.right.last now m.right.stage m.next m.follows) last_one m.home)

  pub drops_on : (l k n word value : ℕ) (y : ℕ × S) → word ≡ place_index p l → value ≡ place_word true k n → MayDropPlace p l k n (took_in (shows y.1)) me.0 → me.1 ≡ y ∷ rest me.1 → Allows (OnTable shows rose q) slots id me word (λ _. value) (λ _. drop_told shows (step slots word value 0 none) me value)
  drops_on l k n word value y e v m top = let t = m.placing in
      let same_word : place_index p t.right.heading.label.place ≡ word = ap (place_index p) t.place_is ∙ sym e in let same_value : place_word true t.right.link t.right.places ≡ value = (λ i. place_word true (t.link_is i) (t.places_are i)) ∙ sym v in
      subst (λ (x : ℕ). Allows (OnTable shows rose q) slots id me word (λ _. x) (λ _. drop_told shows (step slots word x 0 none) me x)) same_value
      (subst (λ (x : ℕ). Allows (OnTable shows rose q) slots id me x (λ _. place_word true t.right.link t.right.places) (λ _. drop_told shows (step slots x (place_word true t.right.link t.right.places) 0 none) me (place_word true t.right.link t.right.places))) same_word
      (subst (λ (z : Plan). Allows (OnTable shows rose z) slots id me (place_index p t.right.heading.label.place) (λ _. place_word true t.right.link t.right.places) (λ _. drop_told shows (step slots (place_index p t.right.heading.label.place) (place_word true t.right.link t.right.places) 0 none) me (place_word true t.right.link t.right.places))) (sym key)
      (drops shows rose p slots id me mine some_ t.right t.one t.now m.slot m.life y t.stage t.taken t.away (subst (λ (x : ℕ). x < 8 * p.operations) (sym t.place_is) t.place_in) m.part top m.holds m.seen)))

  pub puts_on : (r : Right) (word k : ℕ) (y : S) (below : List (ℕ × S)) → me.0.rights ≡ r ∷ [] → r.link ≡ k → me.1 ≡ (p.requests + k, y) ∷ below → shows y ≡ home.Link k r.sent r.places false → r.at_home ≡ false → (0 < faults_of k me.0 → 0 < rose y) → Allows (OnTable shows rose q) slots id me word (λ n. n) (put_own_told (step slots word 0 0 none) me)
  puts_on r word k y below one is top shown gone known = subst (λ (z : Plan). Allows (OnTable shows rose z) slots id me word (λ n. n) (put_own_told (step slots word 0 0 none) me)) (sym key)
      (puts_own shows rose p slots id me mine some_ r one word y below (top ∙ ap (λ (x : ℕ). (p.requests + x, y) ∷ below) (sym is)) (shown ∙ ap (λ (x : ℕ). home.Link x r.sent r.places false) (sym is)) gone (subst (λ (x : ℕ). 0 < faults_of x me.0 → 0 < rose y) (sym is) known))

  pub empties_on : (i last word old new : ℕ) → word ≡ head_index i → old ≡ last → new ≡ IDLE + last → MayEmptyHead p i last me.0 → Allows (OnTable shows rose q) slots id me word (λ n. either (eqb n old) new n) (empty_told (step slots word old new none) me)
  empties_on i last word old new e o w m = let lo : m.right.last ≡ old = m.last_is ∙ sym o in let nw : IDLE + m.right.last ≡ new = ap (λ (x : ℕ). IDLE + x) m.last_is ∙ sym w in
      subst (λ (y : ℕ). Allows (OnTable shows rose q) slots id me word (λ n. either (eqb n old) y n) (empty_told (step slots word old y none) me)) nw
      (subst (λ (y : ℕ). Allows (OnTable shows rose q) slots id me word (λ n. either (eqb n y) (IDLE + m.right.last) n) (empty_told (step slots word y (IDLE + m.right.last) none) me)) lo
      (subst (λ (x : ℕ). Allows (OnTable shows rose q) slots id me x (λ n. either (eqb n m.right.last) (IDLE + m.right.last) n) (empty_told (step slots x m.right.last (IDLE + m.right.last) none) me)) (sym e)
      (subst (λ (z : Plan). Allows (OnTable shows rose z) slots id me (head_index i) (λ n. either (eqb n m.right.last) (IDLE + m.right.last) n) (empty_told (step slots (head_index i) m.right.last (IDLE + m.right.last) none) me)) (sym key)
      (empties shows rose p slots id me mine some_ m.right m.one i m.life m.stage m.home m.holds))))

module _ {S : Type 0} (shows : S → Home) (rose : S → ℕ) (q p : Plan) (slots id : ℕ) (me : Me S View) (mine : me.0.plan ≡ p) (some_ : 0 < me.0.share) (key : q ≡ p) where
  pub reads_on_on : (now word : ℕ) → word ≡ next_index p (ticket_request now) → MayReadOn now me.0 → Allows (OnTable shows rose q) slots id me word (λ n. n) (read_next_told (step slots word 0 0 none) me)
  reads_on_on now word e m = subst (λ (x : ℕ). Allows (OnTable shows rose q) slots id me x (λ n. n) (read_next_told (step slots x 0 0 none) me)) (sym e)
      (subst (λ (z : Plan). Allows (OnTable shows rose z) slots id me (next_index p (ticket_request now)) (λ n. n) (read_next_told (step slots (next_index p (ticket_request now)) 0 0 none) me)) (sym key) (reads_on shows rose p slots id me mine some_ m.right m.one now m.stage m.more))

  pub reads_back_on : (at word : ℕ) → word ≡ next_index p (ticket_request at) → MayReadBack at me.0 → Allows (OnTable shows rose q) slots id me word (λ n. n) (read_next_told (step slots word 0 0 none) me)
  reads_back_on at word e m = subst (λ (x : ℕ). Allows (OnTable shows rose q) slots id me x (λ n. n) (read_next_told (step slots x 0 0 none) me)) (sym e)
      (subst (λ (z : Plan). Allows (OnTable shows rose z) slots id me (next_index p (ticket_request at)) (λ n. n) (read_next_told (step slots (next_index p (ticket_request at)) 0 0 none) me)) (sym key) (reads_back shows rose p slots id me mine some_ m.right m.one m.top at m.after m.stage))

  pub turns_on : (at word value : ℕ) → word ≡ next_index p (ticket_request at) → MayTurnNext at value me.0 → Allows (OnTable shows rose q) slots id me word (λ _. value) (λ _. turn_told (step slots word value 0 none) me value)
  turns_on at word value e m = subst (λ (x : ℕ). Allows (OnTable shows rose q) slots id me x (λ _. value) (λ _. turn_told (step slots x value 0 none) me value)) (sym e)
      (subst (λ (z : Plan). Allows (OnTable shows rose z) slots id me (next_index p (ticket_request at)) (λ _. value) (λ _. turn_told (step slots (next_index p (ticket_request at)) value 0 none) me value)) (sym key) (turns shows rose p slots id me mine some_ m.right m.one m.top at value m.before m.stage))

pub read_back_seat : {S : Type 0} (z : TableId) (p : Plan) (s t : Seat S View) (r : Right) (top at after found : ℕ) → IsSeat z p s → t.table_id ≡ s.table_id → ReadBack r top at after found s.me t.me → IsSeat z p t
read_back_seat {S} z p s t r top at after found is same a = dite (ℕ_discrete found UNCONNECTED) (λ waits. still_seat z p s t _ is same (a.0 waits) refl refl) (λ there. still_seat z p s t _ is same ((a.1 there).0) refl refl)

pub looked_seat : {S : Type 0} (z : TableId) (p : Plan) (s t : Seat S View) (r : Right) (i found : ℕ) → IsSeat z p s → t.table_id ≡ s.table_id → LookedToWrite r i found s.me t.me → IsSeat z p t
looked_seat {S} z p s t r i found is same a = dite (ℕ_discrete (vref_version found % 2) 0) (λ even. still_seat z p s t _ is same (a.1 even) refl refl) (λ odd. still_seat z p s t _ is same (a.2 odd) refl refl)

pub emptied_seat : {S : Type 0} (z : TableId) (p : Plan) (s t : Seat S View) (r : Right) (last found : ℕ) → IsSeat z p s → t.table_id ≡ s.table_id → Emptied r last found s.me t.me → IsSeat z p t
emptied_seat {S} z p s t r last found is same a = dite (ℕ_discrete found last) (λ won. still_seat z p s t _ is same (a.0 won) refl refl) (λ lost. still_seat z p s t _ is same ((a.1 lost).0) refl refl)
