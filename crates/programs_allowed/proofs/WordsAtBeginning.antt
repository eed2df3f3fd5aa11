-- The words and homes as a run begins: slots are free, names unset, and links at home.
use Rattle.std.proofs.Common.{◌≡◌, ℕ, zero, suc, ◌+◌, ◌-◌, ◌*◌, ◌<◌, ◌≤◌, false, List, [], ◌∷◌, ◌++◌, length, get_or, slice_index, replicate, refl, sym, ap, ◌∙◌, arith, length-append, get_or-append-add}
use Rattle.std.proofs.lemmas.List.{length-replicate, get_or-replicate, get_or_append_left, get_or-append_right, get_or_past}
use mathlib.Core.Logic.{dite}
use mathlib.Core.Option.{Option, some, none, some-injective, some-ne-none}
use native.Mathlib.Decide.{dec_le}
use lib.ListN.{get_elem?}
use Rattle.sock_words.specs.declared.plain.Plan.{Plan}
use Rattle.sock_model.specs.declared.chain.Heading.{Heading}
use Rattle.sock_model.specs.declared.home.Home.{Home}
use Rattle.sock_model.specs.declared.home.Home.TheVariants.{Link, Message}
use Rattle.sock_model.specs.SocketTableLayout.{all_words}
use Rattle.sock_model.specs.ChainLawReads.{as_link, shown, link_at}
use Rattle.sock_model.specs.ViewsOfSplitSeats.{Unused}
use Rattle.seat_programs.specs.ScriptSetupToEnding.{free_slot, free_slots, opening_words, new_links, opening_homes}

-- ## Words

length_slots : (first n : ℕ) → length (free_slots first n) ≡ 6 * n
length_slots first zero = refl
length_slots first (suc n) = omega (arith, length_slots first n)

-- word c of slot i
slot_at : (first n : ℕ) (z : List ℕ) (i c : ℕ) → i < n → c < 6 → get_or (free_slots first n ++ z) (6 * i + c) 0 ≡ get_or (free_slot first) c 0
slot_at first zero z i c inside small = absurd (omega (arith, inside))
slot_at first (suc n) z zero c inside small = let q : 6 * 0 + c ≡ c = omega arith in ap (λ x. get_or (free_slot first ++ (free_slots first n ++ z)) x 0) q ∙ get_or_append_left (free_slot first) (free_slots first n ++ z) 0 c small
slot_at first (suc n) z (suc i) c inside small = let q : 6 * suc i + c ≡ 6 + (6 * i + c) = omega arith in
    ap (λ x. get_or (free_slot first ++ (free_slots first n ++ z)) x 0) q ∙ (get_or-append-add (free_slot first) (free_slots first n ++ z) (6 * i + c) 0 ∙ slot_at first n z i c (omega (arith, inside)) small)

zeros : (m x : ℕ) → slice_index (replicate m 0) x ≡ 0
zeros m x = dite (dec_le m x) (λ past. get_or_past (replicate m 0) x 0 (omega (arith, past, length-replicate {A = ℕ} m 0))) (λ inside. get_or-replicate m x 0 0 (omega arith))

module _ (p : Plan) where
  -- behind the slots all is 0
  pub beyond : (x : ℕ) → 6 * p.slots ≤ x → get_or (opening_words p) x 0 ≡ 0
  beyond x past = get_or-append_right (free_slots p.first p.slots) (replicate (all_words p - 6 * p.slots) 0) (6 * p.slots) x 0 (length_slots p.first p.slots) past ∙ zeros (all_words p - 6 * p.slots) (x - 6 * p.slots)

  in_slot : (i c : ℕ) → i < p.slots → c < 6 → get_or (opening_words p) (6 * i + c) 0 ≡ get_or (free_slot p.first) c 0
  in_slot = slot_at p.first p.slots (replicate (all_words p - 6 * p.slots) 0)

  pub unused : Unused p (opening_words p)
  unused = record {
    sized = length-append (free_slots p.first p.slots) (replicate (all_words p - 6 * p.slots) 0) ∙ omega (arith, length_slots p.first p.slots, length-replicate {A = ℕ} (all_words p - 6 * p.slots) 0);
    tags = λ i inside. let q : 6 * i ≡ 6 * i + 0 = omega arith in ap (λ x. get_or (opening_words p) x 0) q ∙ in_slot i 0 inside (omega arith);
    refs = λ i inside. in_slot i 1 inside (omega arith);
    links = λ i inside. in_slot i 2 inside (omega arith);
    codes = λ i inside. in_slot i 4 inside (omega arith);
    names = λ n inside. beyond (6 * p.slots + n) (omega arith);
    opens = λ o inside. beyond (6 * p.slots + p.names + o) (omega arith);
  }

-- ## Homes

behind_requests : (r : ℕ) (hs : List (Option Home)) (k : ℕ) → get_elem? (replicate r none ++ hs) (r + k) ≡ get_elem? hs k
behind_requests zero hs k = let q : 0 + k ≡ k = omega arith in ap (get_elem? hs) q
behind_requests (suc r) hs k = let q : suc r + k ≡ suc (r + k) = omega arith in ap (get_elem? (none ∷ (replicate r none ++ hs))) q ∙ behind_requests r hs k

new_link_at : (j n k : ℕ) → k < n → get_elem? (new_links j n) k ≡ some (some (Link (j + k) [] 0 false))
new_link_at j zero k inside = absurd (omega (arith, inside))
new_link_at j (suc n) zero inside = let q : j ≡ j + 0 = omega arith in ap (λ x. some (some (Link x [] 0 false))) q
new_link_at j (suc n) (suc k) inside = let q : j + 1 + k ≡ j + suc k = omega arith in new_link_at (j + 1) n k (omega (arith, inside)) ∙ ap (λ x. some (some (Link x [] 0 false))) q

length_links : (j n : ℕ) → length (new_links j n) ≡ n
length_links j zero = refl
length_links j (suc n) = ap suc (length_links (j + 1) n)

module _ (p : Plan) where
  pub at_home : (k : ℕ) → k < p.links → link_at (λ home. home) p (opening_homes p) k ≡ some (Link k [] 0 false)
  at_home k inside = let q : 0 + k ≡ k = omega arith in ap (λ o. as_link (shown (λ (home : Home). home) o)) (behind_requests p.requests (new_links 0 p.links) k ∙ (new_link_at 0 p.links k inside ∙ ap (λ x. some (some (Link x [] 0 false))) q))

  pub length_homes : length (opening_homes p) ≡ p.requests + p.links
  length_homes = length-append (replicate p.requests none) (new_links 0 p.links) ∙ omega (arith, length_links 0 p.links, length-replicate {A = Option Home} p.requests none)

-- no home has a message
pub links_only : (j n i : ℕ) (heading : Heading) (bytes : List ℕ) → get_elem? (new_links j n) i ≡ some (some (Message heading bytes)) → ⊥
links_only j zero i heading bytes e = some-ne-none (some (Message heading bytes)) (sym e)
links_only j (suc n) zero heading bytes e = let q : Link j [] 0 false ≡ Message heading bytes = some-injective (Link j [] 0 false) (Message heading bytes) (some-injective (some (Link j [] 0 false)) (some (Message heading bytes)) e) in cc
links_only j (suc n) (suc i) heading bytes e = links_only (j + 1) n i heading bytes e

homes_only : (r j n i : ℕ) (heading : Heading) (bytes : List ℕ) → get_elem? (replicate r none ++ new_links j n) i ≡ some (some (Message heading bytes)) → ⊥
homes_only zero j n i heading bytes e = links_only j n i heading bytes e
homes_only (suc r) j n zero heading bytes e = some-ne-none (Message heading bytes) (sym (some-injective none (some (Message heading bytes)) e))
homes_only (suc r) j n (suc i) heading bytes e = homes_only r j n i heading bytes e

pub no_message : (p : Plan) (i : ℕ) (heading : Heading) (bytes : List ℕ) → get_elem? (opening_homes p) i ≡ some (some (Message heading bytes)) → ⊥
no_message p i heading bytes e = homes_only p.requests 0 p.links i heading bytes e
