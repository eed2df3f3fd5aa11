-- A link that was taken out of its home and moved into a hand.
use Rattle.std.proofs.Common.{◌≡◌, ℕ, ◌+◌, ◌*◌, ◌<◌, Bool, true, false, List, [], ◌∷◌, refl, sym, ap, ◌∙◌, subst, arith}
use Rattle.atomic_table.specs.Table.{Me, rest}
use Rattle.sock_io.specs.declared.link.Out.{Ghosts}
use Rattle.sock_words.specs.declared.plain.Plan.{Plan}
use Rattle.sock_model.specs.declared.home.Home.{Home}
use Rattle.sock_model.specs.declared.home.Home.TheVariants as home
use Rattle.sock_model.specs.declared.view.View.{View}
use Rattle.sock_rule.specs.declared.homes.LinkHome.{LinkHome}
use Rattle.sock_rule.specs.declared.homes.SockHome.{SockHome}
use Rattle.sock_rule.specs.declared.homes.SockHome.TheVariants.{Empty, Link, Message, Ways}
use Rattle.sock_model.specs.ChainRows.{without_hand}
use Rattle.message_parts.specs.Parcels.{parcel_of}
use Rattle.sock_rule.specs.declared.homes.Letter.{Letter}
use Rattle.sock_model.specs.declared.chain.Heading.{Heading}
use Rattle.sock_model.specs.declared.chain.Right.{Right}
use Rattle.sock_model.specs.ChainRows.{with_right, taken_right, dropped_right}
use Rattle.sock_rule.specs.NotesBesideRows.{dropped_at}
use Rattle.sock_rule.specs.ChainPlays.{TookOwn, TookLetter}
use Rattle.sock_rule.specs.LinkFaultNotes.{faults_of, fault_found, fault_left, noting_end, CameOut}
use Rattle.sock_rule.specs.Shows.{shows, rose, heading_of, number_in, shows_in}
use Rattle.sock_rule.specs.OnKey.{LinkOnTop}
use Rattle.sock_rule.specs.SocketPlays.{TookLink}
use Rattle.sock_rule.proofs.WaysByTableKey.{own_number}
use Rattle.sock_words.specs.PackedWords.{ticket_request}

-- what a link's home shows
abbrev pub number : Home → ℕ
number (home.Link k took next done) = k
number _ = 0

abbrev pub bytes : Home → List ℕ
bytes (home.Link k took next done) = took
bytes _ = []

abbrev next_place : Home → ℕ
next_place (home.Link k took next done) = next
next_place _ = 0

abbrev is_link : Home → ℕ
is_link (home.Link k took next done) = 1
is_link _ = 0

abbrev pub is_done : Home → Bool
is_done (home.Link k took next done) = done
is_done _ = true

abbrev top : {S : Type 0} → S → List (ℕ × S) → S
top d [] = d
top d (c ∷ cs) = c.1

-- the link k came into the seat's hands as it was at home, which showed it so; where its half has faults, that is noted at slot i
pub record Came {O : Type 0} {g : Ghosts O} (p : Plan) (ways : List (List ℕ)) (m n : Me (SockHome O g) View) (i k : ℕ) (took : List ℕ) (next : ℕ) (done : Bool) (row : List ℕ → ℕ → View) : Type 0 where
  pub value : SockHome O g
  pub shown : shows_in p ways value ≡ home.Link k took next done
  pub inside : k < m.0.plan.links
  pub view : n.0 ≡ fault_found (rose value) i k (row took next)
  pub known : 0 < faults_of k m.0 → 0 < rose value
  pub slots : n.1 ≡ (m.0.plan.requests + k, value) ∷ m.1

module _ {O : Type 0} {g : Ghosts O} (p : Plan) (ways : List (List ℕ)) {m n : Me (SockHome O g) View} where
  pub link_came : {k : ℕ} {row : List ℕ → ℕ → View} (t : TookLink (shows_in p ways) rose m n k row) → Came p ways m n 0 k t.took t.next t.done row
  link_came t = record { value = t.value; shown = t.shown; inside = t.inside; view = t.view; known = t.known; slots = t.slots }

  -- that of the right that the seat has
  pub own_came : {r : Right} {i : ℕ} → TookOwn (shows_in p ways) rose m n r i → Came p ways m n i r.link r.sent r.places false (λ took next. with_right m.0 (record r { at_home = false }))
  own_came t = record { value = t.value; shown = t.shown; inside = t.inside; view = t.view; known = t.known; slots = t.slots }

-- what shows a link is one
pub link_of : {O : Type 0} {g : Ghosts O} (p : Plan) (ways : List (List ℕ)) (k : ℕ) (took : List ℕ) (next : ℕ) (done : Bool) (x : SockHome O g) → shows_in p ways x ≡ home.Link k took next done → (h : LinkHome O g) × (x ≡ Link h)
link_of p ways k took next done Empty e = let a = ap is_link e in absurd (omega arith)
link_of p ways k took next done (Link h) e = (h, refl)
link_of p ways k took next done (Message m) e = let a = ap is_link e in absurd (omega arith)
link_of p ways k took next done (Ways w) e = let a = ap is_link e in absurd (omega arith)

module _ {O : Type 0} {g : Ghosts O} {p : Plan} {ways : List (List ℕ)} {m n : Me (SockHome O g) View} {i k : ℕ} {took : List ℕ} {next : ℕ} {done : Bool} {row : List ℕ → ℕ → View} (t : Came p ways m n i k took next done row) where
  -- its home stands first
  pub came_home : (q : Plan) → m.0.plan ≡ q → LinkOnTop (q.requests + k) n
  came_home q e = let x = link_of p ways k took next done t.value t.shown in (x.0, t.slots ∙ (λ j. ((e j).requests + k, x.1 j) ∷ rest (sym t.slots j)))

  module _ (slot : ℕ) (h : LinkHome O g) (moved : n.1 ≡ (slot, Link h) ∷ rest n.1) where
    came_is : t.value ≡ Link h
    came_is = ap (top t.value) (sym t.slots ∙ moved)

    came_shown : home.Link (number_in p ways (g.state h.out)) h.took.list h.next (g.state h.out).finished ≡ home.Link k took next done
    came_shown = ap (shows_in p ways) (sym came_is) ∙ t.shown

    pub came_done : (g.state h.out).finished ≡ done
    came_done = ap is_done came_shown

    pub came_took : (h.took.list ≡ took) × (h.next ≡ next)
    came_took = (ap bytes came_shown, ap next_place came_shown)

    pub came_out : k < p.links → (q : Plan) → m.0.plan ≡ q → CameOut q ways k m.0 (g.state h.out)
    came_out low q e = let own = own_number p ways (g.state h.out) k (ap number came_shown) low in record {
      link_is = own.0;
      link_in = subst (λ (x : Plan). k < x.links) e t.inside;
      way_is = own.1;
      known = λ some_. subst (λ (y : SockHome O g). 0 < rose y) came_is (t.known some_);
    }

    pub came_after : (new : Me (SockHome O g) View) → new ≡ (n.0, (slot, Empty) ∷ rest n.1) → new ≡ (fault_found (g.state h.out).faults i k (row h.took.list h.next), (slot, Empty) ∷ m.1)
    came_after new e = let same = came_is in let v : n.0 ≡ fault_found (g.state h.out).faults i k (row h.took.list h.next) = t.view ∙ (λ j. fault_found (rose (same j)) i k (row (sym came_took.0 j) (sym came_took.1 j))) in
        let below : rest n.1 ≡ m.1 = ap rest t.slots in e ∙ (λ j. (v j, (slot, Empty) ∷ below j))

-- the slot that is to go home stands first
pub put_slots : {S : Type 0} (p q : Plan) (l : List (ℕ × S)) (k : ℕ) (y : S) (below : List (ℕ × S)) → p ≡ q → l ≡ (q.requests + k, y) ∷ below → l ≡ (p.requests + k, y) ∷ below
put_slots p q l k y below same is = is ∙ (λ i. ((sym same i).requests + k, y) ∷ below)

-- and is home then
pub back_home : {S : Type 0} (faults : S → ℕ) (m n r : Me S View) (q : Plan) (i k : ℕ) (y : S) → m.0.plan ≡ q → n ≡ (m.0, (q.requests + k, y) ∷ rest m.1)
    → ((j : ℕ) (z : S) (below : List (ℕ × S)) → n.1 ≡ (n.0.plan.requests + j, z) ∷ below → r ≡ (noting_end n.0.plan i j (fault_left (faults z) j (without_hand n.0 j)), below)) → r ≡ (noting_end q i k (fault_left (faults y) k (without_hand m.0 k)), rest m.1)
back_home {S} faults m n r q i k y plan is told = let v = ap (λ (x : Me S View). x.0) is in let same : n.0.plan ≡ q = ap (λ (u : View). u.plan) v ∙ plan in
    told k y (rest m.1) (put_slots n.0.plan q n.1 k y (rest m.1) same (ap (λ (x : Me S View). x.1) is)) ∙ (λ b. (noting_end (same b) i k (fault_left (faults y) k (without_hand (v b) k)), rest m.1))

-- ## A message

abbrev is_letter : Home → ℕ
is_letter (home.Message l b) = 1
is_letter _ = 0

abbrev letter_heading : Heading → Home → Heading
letter_heading d (home.Message l b) = l
letter_heading d _ = d

abbrev letter_bytes : Home → List ℕ
letter_bytes (home.Message l b) = b
letter_bytes _ = []

module _ {O : Type 0} {g : Ghosts O} (m n : Me (SockHome O g) View) (r : Right) (now : ℕ) (t : TookLetter shows m n r now) (slot : ℕ) (x : SockHome O g) (moved : n.1 ≡ (slot, x) ∷ rest n.1) where
  letter_value : t.value ≡ x
  letter_value = ap (top t.value) (sym t.slots ∙ moved)

  pub must_letter : ((h : Letter) → x ≡ Message h → ⊥) → ⊥
  must_letter none_ = by_value x refl
    where
      by_value : (y : SockHome O g) → x ≡ y → ⊥
      by_value Empty e = let a = ap is_letter (sym t.shown ∙ ap shows (letter_value ∙ e)) in omega arith
      by_value (Link h) e = let a = ap is_letter (sym t.shown ∙ ap shows (letter_value ∙ e)) in omega arith
      by_value (Message w) e = none_ w e
      by_value (Ways w) e = let a = ap is_letter (sym t.shown ∙ ap shows (letter_value ∙ e)) in omega arith

  module _ (h : Letter) (is : x ≡ Message h) where
    letter_shown : home.Message (heading_of h) (parcel_of h.bytes).bytes ≡ home.Message t.heading t.bytes
    letter_shown = ap shows (sym (letter_value ∙ is)) ∙ t.shown

    pub letter_label : h.label.place < 8 * m.0.plan.operations
    letter_label = subst (λ (y : Heading). y.label.place < 8 * m.0.plan.operations) (sym (ap (letter_heading (heading_of h)) letter_shown)) t.label_in

    pub letter_after : slot ≡ ticket_request now → (new : Me (SockHome O g) View) → new ≡ (n.0, (slot, Empty) ∷ rest n.1) → new ≡ (with_right m.0 (taken_right r (heading_of h) (parcel_of h.bytes).bytes), (ticket_request now, Empty) ∷ m.1)
    letter_after at new e = let below : rest n.1 ≡ m.1 = ap rest t.slots in let l = ap (letter_heading (heading_of h)) letter_shown in let b = ap letter_bytes letter_shown in
        e ∙ ((λ i. (t.view i, (at i, Empty) ∷ below i)) ∙ (λ i. (with_right m.0 (taken_right r (sym l i) (sym b i)), (ticket_request now, Empty) ∷ m.1)))

-- ## A link that lay in a home for a while

abbrev link_or : {O : Type 0} {g : Ghosts O} → LinkHome O g → SockHome O g → LinkHome O g
link_or d (Link h) = h
link_or d _ = d

-- one that was found on top is the one that lay there
pub comes_back : {O : Type 0} {g : Ghosts O} (l : List (ℕ × SockHome O g)) (slot : ℕ) (home : LinkHome O g) (x : SockHome O g) (below : List (ℕ × SockHome O g)) → l ≡ (slot, Link home) ∷ below → l ≡ (slot, x) ∷ rest l → Link home ≡ x
comes_back l slot home x below there moved = ap (top (Link home)) (sym there ∙ moved)

pub same_link : {O : Type 0} {g : Ghosts O} (l : List (ℕ × SockHome O g)) (slot : ℕ) (home back : LinkHome O g) (below : List (ℕ × SockHome O g)) → l ≡ (slot, Link home) ∷ below → l ≡ (slot, Link back) ∷ rest l → back ≡ home
same_link l slot home back below there moved = ap (link_or home) (sym (comes_back l slot home (Link back) below there moved))

-- it is laid into the home of a request, from which the message was taken, for the one step that drops the message
module _ {O : Type 0} {g : Ghosts O} (m₀ m₁ : Me (SockHome O g) View) (slot now : ℕ) (home : LinkHome O g) (at : slot ≡ ticket_request now) (there : m₀.1 ≡ (ticket_request now, Empty) ∷ rest m₀.1) (laid : m₁ ≡ (m₀.0, (slot, Link home) ∷ rest m₀.1)) where
  pub laid_top : m₁.1 ≡ (slot, Link home) ∷ rest m₁.1
  laid_top = let t = ap (λ (m : Me (SockHome O g) View). m.1) laid in t ∙ ap (λ (l : List (ℕ × SockHome O g)). (slot, Link home) ∷ l) (sym (ap rest t))

  module _ (m₂ : Me (SockHome O g) View) (x : Right) (n word value : ℕ) (told : m₂ ≡ (dropped_at word value x.heading (with_right m₁.0 (dropped_right x n home.took.list)), m₁.1)) where
    pub laid_still : m₂.1 ≡ (slot, Link home) ∷ rest m₂.1
    laid_still = let t = ap (λ (m : Me (SockHome O g) View). m.1) told in t ∙ (laid_top ∙ ap (λ (l : List (ℕ × SockHome O g)). (slot, Link home) ∷ rest l) (sym t))

    pub dropped_after : (m₃ : Me (SockHome O g) View) → m₃ ≡ (m₂.0, (slot, Empty) ∷ rest m₂.1) → m₃ ≡ (dropped_at word value x.heading (with_right m₀.0 (dropped_right x n home.took.list)), m₀.1)
    dropped_after m₃ e = let v : m₂.0 ≡ dropped_at word value x.heading (with_right m₀.0 (dropped_right x n home.took.list)) = ap (λ (m : Me (SockHome O g) View). m.0) told ∙ ap (λ (m : Me (SockHome O g) View). dropped_at word value x.heading (with_right m.0 (dropped_right x n home.took.list))) laid in
        let below : rest m₂.1 ≡ rest m₀.1 = ap (λ (m : Me (SockHome O g) View). rest m.1) told ∙ ap (λ (m : Me (SockHome O g) View). rest m.1) laid in
        e ∙ ((λ i. (v i, (at i, Empty) ∷ below i)) ∙ (λ i. (dropped_at word value x.heading (with_right m₀.0 (dropped_right x n home.took.list)), sym there i)))
