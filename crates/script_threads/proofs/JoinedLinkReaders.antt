-- Links that were read beside clients, put together again.
use Rattle.std.proofs.Common.{◌≡◌, List, [], ◌∷◌, length, map, refl, sym, ap, ◌∙◌, subst, arith}
use Rattle.std.specs.Prelude.{IfSome}
use Rattle.std.specs.List.{AllByRecursion}
use Rattle.std.proofs.lemmas.List.{length-map}
use Rattle.sock_io.specs.declared.link.Out.{Ghosts}
use Rattle.sock_io.specs.declared.link.Ends.{Ends}
use Rattle.sock_io.specs.LinkHalves.{OutState, InState}
use Rattle.call_run.specs.link_crew.specs.declared.beside.Rest.{Rest}
use Rattle.call_run.specs.ReadersOfLinks.{LinkReader}
use Rattle.script_links.specs.LinksGivenBack.{AreUntouched}
use Rattle.script_parts.specs.HalvesApartAndTogether.{rest_of, joined}
use Rattle.script_parts.specs.call_whys.specs.call_told.proofs.ListElementsByPlace.{all_mapped, of_mapped}
use Rattle.script_parts.proofs.LinksUntilParting.{end_at, IsSilent, are_silent}
use Rattle.script_threads.specs.ServedScriptTold.{HadGivenNone}

-- halves of which the one list was made of the other, as many as there are readers
pub as_many : {A B C : Type 0} (f : A → B) (h : C → B) (xs : List A) (ys : List C) → map f xs ≡ map h ys → length xs ≡ length ys
as_many f h xs ys e = sym (length-map xs f) ∙ (ap length e ∙ length-map ys h)

abbrev GaveNone : InState → Type 0
GaveNone s = (s.gave ≡ 0) × IfSome s.gave_bytes (λ bytes. bytes ≡ [])

module _ {O I P : Type 0} (out : O → OutState) (inn : I → InState) where
  pub joined_inns : (outs : List O) (rests : List (Rest I P)) → length outs ≡ length rests → map (λ (e : Ends O I P). inn e.inn) (joined outs rests) ≡ map (λ (r : Rest I P). inn r.inn) rests
  joined_inns [] [] same = refl
  joined_inns [] (r ∷ rs) same = absurd (omega arith)
  joined_inns (o ∷ os) [] same = refl
  joined_inns (o ∷ os) (r ∷ rs) same = ap (λ l. inn r.inn ∷ l) (joined_inns os rs (omega arith))

  -- readers of links that gave nothing before
  pub had_none : {g : Ghosts O} (ends : List (Ends O I P)) (rests : List (Rest I P)) (readers : List (LinkReader g)) → AreUntouched 0 (map (end_at out inn) ends) → rests ≡ map rest_of ends → map (λ (x : LinkReader g). x.before) readers ≡ map (λ (r : Rest I P). inn r.inn) rests → AllByRecursion HadGivenNone readers
  had_none {g} ends rests readers untouched are before =
      let silent : AllByRecursion (IsSilent out inn) rests = subst (AllByRecursion (IsSilent out inn)) (sym are) (are_silent out inn 0 ends untouched) in
      of_mapped (λ (x : LinkReader g). x.before) GaveNone readers (subst (AllByRecursion GaveNone) (sym before) (all_mapped (λ (r : Rest I P). inn r.inn) GaveNone rests silent))
