-- The ends of links, compared one link behind the other.
use Rattle.std.proofs.Common.{◌≡◌, ◌≢◌, ℕ, ◌+◌, ◌<◌, List, length, get_or, sym, ◌∙◌, subst, arith, below_more, get_or-set_other, get_or-set_same}
use Rattle.std.proofs.Math.ListN.{set}
use Rattle.std.proofs.lemmas.List.{get_or_default}
use Rattle.sock_io.specs.declared.link.Ends.{Ends}
use Rattle.sock_io.specs.LinkHalves.{OutState, InState}
use Rattle.sock_io.specs.Peer.{PeerState}
use Rattle.rpc_reader.proofs.Series.{StandFrom}
use Rattle.link_crew.specs.ComparedLinkEnds.{HasMet, MetBelow}

module _ {O I P : Type 0} (out : O → OutState) (peer : P → PeerState) (inn : I → InState) where
  -- one more
  pub met_next : (i : ℕ) (old now : List (Ends O I P)) (e v : Ends O I P) → StandFrom i old now → i < length old → MetBelow out peer inn i old now → HasMet out peer inn (get_or now i e) v → MetBelow out peer inn (i + 1) old (set now i v)
  met_next i old now e v s lt met one k d le =
      let within : i < length now = (let z = s.sized in omega arith) in
      let was : get_or now i e ≡ get_or old i d = get_or_default now i e d within ∙ s.each i d (omega arith) in
      below_more (λ (j : ℕ). HasMet out peer inn (get_or old j d) (get_or (set now i v) j d)) i
      (λ j below. let other : j ≢ i = (λ (same : j ≡ i). omega arith) in subst (λ (x : Ends O I P). HasMet out peer inn (get_or old j d) x) (sym (get_or-set_other now i j v d other)) (met j d below))
      (subst (λ (x : Ends O I P). HasMet out peer inn x (get_or (set now i v) i d)) was (subst (λ (x : Ends O I P). HasMet out peer inn (get_or now i e) x) (sym (get_or-set_same now i v d within)) one)) k le
