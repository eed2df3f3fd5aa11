-- Links that are opened one after another answer each put as the shape says that their lines ask for.
use Rattle.std.proofs.Common.{◌≡◌, ◌≢◌, ℕ, List, [], ◌∷◌, Option, Some, None, ap, refl, ◌∙◌}
use Rattle.std.specs.Prelude.{IfSome}
use lib.ListN.{get_elem?}
use Rattle.sock_io.specs.LinkHalves.{OutState}
use Rattle.sock_io.specs.PutAnswers.{Pacing}
use Rattle.script_links.specs.OfferedLinks.{TellsPacing}

pub told_none : (o : Option (List ℕ)) → o ≢ None → IfSome o (λ bytes. bytes ≡ []) → o ≡ Some []
told_none None told h = absurd (told refl)
told_none (Some bytes) told h = ap Some h

-- a link that was opened just now
pub new_paced : (out : OutState) (pacing : Pacing) → out.took ≢ None → IfSome out.took (λ bytes. bytes ≡ []) → out.pacing ≡ Some pacing → TellsPacing (out ∷ []) 0 pacing
new_paced out pacing told none_ goes = record { out = out; out_at = refl; took = []; took_is = told_none out.took told none_; pacing_is = goes }

-- the same half, elsewhere in another list
pub paced_elsewhere : (outs outs' : List OutState) (k k' : ℕ) (pacing : Pacing) → get_elem? outs' k' ≡ get_elem? outs k → TellsPacing outs k pacing → TellsPacing outs' k' pacing
paced_elsewhere outs outs' k k' pacing outs_are h = record { out = h.out; out_at = outs_are ∙ h.out_at; took = h.took; took_is = h.took_is; pacing_is = h.pacing_is }
