-- M1, M2, and L1 and L2 with a right, as a machine makes them: what lies at the home, and that the rule holds after the move.
use Rattle.std.proofs.Common.{◌≡◌, ℕ, ◌+◌, ◌<◌, true, false, List, length, set, refl, ap, ◌∙◌}
use mathlib.Core.Option.{none, some}
use lib.ListN.{get_elem?}
use Rattle.atomic_table.specs.Table.{State}
use Rattle.sock_model.specs.sock_words.specs.declared.plain.Plan.{Plan}
use Rattle.sock_model.specs.declared.chain.Heading.{Heading}
use Rattle.sock_model.specs.declared.home.Home.{Home}
use Rattle.sock_model.specs.declared.home.Home.TheVariants.{Link, Message}
use Rattle.sock_model.specs.declared.view.View.{View}
use Rattle.sock_model.specs.ChainRows.{with_claim, filled_claim, with_right, taken_right}
use Rattle.sock_model.specs.ChainStepConditions.{HasClaim, HasRight, MayTake}
use Rattle.sock_model.specs.LawfulSockets.{Lawful}
use Rattle.chain_steps.proofs.TicketLists.{at_length}
use Rattle.sock_steps.proofs.ClaimSteps.{filling_law}
use Rattle.sock_steps.proofs.WriteSteps.{taking_law}
use Rattle.sock_steps.proofs.LinkSteps.{link_goes_law, link_comes_law, link_home_law}
use Rattle.sock_model.specs.sock_words.specs.PackedWords.{ticket_request}

module _ (p : Plan) (s : State Home View) (o : Lawful (λ home. home) p s) (id : ℕ) (v : View) (here : get_elem? s.views id ≡ some v) where
  -- M1: the message of the claim goes home
  pub message_comes_law : (r : ℕ) (x : HasClaim r p v) (heading : Heading) (bytes : List ℕ) → r < length s.homes
      → Lawful (λ home. home) p record { words = s.words; homes = set s.homes r (some (Message heading bytes)); views = set s.views id (with_claim v (filled_claim x.claim heading bytes)) }
  message_comes_law r x heading bytes long = filling_law o id r v x.claim (filled_claim x.claim heading bytes) here x.request_in x.claims x.request_is x.request_is (Message heading bytes) refl long refl refl

  -- M2: the message of the first entry without a place is taken from its home
  pub message_goes_law : (x : MayTake v) → (heading : Heading) × (bytes : List ℕ) × (get_elem? s.homes (ticket_request x.now) ≡ some (some (Message heading bytes)))
      × Lawful (λ home. home) p record { words = s.words; homes = set s.homes (ticket_request x.now) none; views = set s.views id (with_right v (taken_right x.mine.right heading bytes)) }
  message_goes_law x = let a = taking_law (λ home. home) p id v x s o here in
      (a.1, a.2, a.3 ∙ ap (λ (y : Home). some (some y)) a.4, a.5 none refl)

  module _ (x : HasRight v) where
    -- L1: the link is taken from its home, with what it took and its next place
    pub link_taken_law : x.right.at_home ≡ true → (get_elem? s.homes (p.requests + x.right.link) ≡ some (some (Link x.right.link x.right.sent x.right.places false)))
        × Lawful (λ home. home) p record { words = s.words; homes = set s.homes (p.requests + x.right.link) none; views = set s.views id (with_right v (record x.right { at_home = false })) }
    link_taken_law home = let a = link_home_law (λ home. home) p s o id v here x home in
        (a.1 ∙ ap (λ (y : Home). some (some y)) a.2, link_goes_law (λ home. home) p s o id v here x none refl (at_length s.homes (p.requests + x.right.link) (some a.0) a.1))

    -- L2: it comes back with what it had taken when a message last got its place, and its next place
    pub link_back_law : p.requests + x.right.link < length s.homes
        → Lawful (λ home. home) p record { words = s.words; homes = set s.homes (p.requests + x.right.link) (some (Link x.right.link x.right.sent x.right.places false)); views = set s.views id (with_right v (record x.right { at_home = true })) }
    link_back_law long = link_comes_law (λ home. home) p s o id v here x (Link x.right.link x.right.sent x.right.places false) refl long
