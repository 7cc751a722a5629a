use Rattle.std.proofs.Common.{◌≡◌, refl, sym, ap, ◌∙◌}
use Rattle.elsa_cache.proofs.parsed_cache.ParsedCache.load.Goals as goal

pub returns-clause-gains : goal.returns-clause-gains
returns-clause-gains g c t none there =
    let same : t ≡ c.in-Ok.text = let both = sym there ∙ c.in-Ok.ensures.value_after in cc in
    (c.in_ok-loaded.loaded, (c.args.path, c.in_ok-loaded.ensures, refl), ap (λ b. b.now) same ∙ (c.in-Ok.ensures.added (rw (← c.self.view_is) at none)).0)

pub returns-in_default-keep-clause-no_room : goal.returns-in_default-keep-clause-no_room
returns-in_default-keep-clause-no_room g c _ = (_, (c.in_ok-loaded.loaded, (c.args.path, c.in_ok-loaded.ensures, refl), refl))
