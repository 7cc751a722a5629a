use Rattle.std.proofs.Common.{◌≡◌, ◌∙◌, None, ap, sym, true}
use Rattle.std.specs.Map.{lookup}
use Rattle.elsa_maps.proofs.map.frozen.Frozen.insert_by.Goals as goal

-- the query finds the keys that equal the one that was made, so this one is absent too
pub returns-clause-added : goal.returns-clause-added
returns-clause-added g c absent =
    let (key, value) = c.in-Ok.entry in
    let finds = g.Q.Seeks.finds c.args.query in
    let made : finds key ≡ true = c.requires.found key value c.in-Ok.ensures in
    let alike : finds ≡ g.T.Table.same key = λ i other. g.met.Q.Seeks.finds_equals c.args.query key other made i in
    let none : lookup (g.T.Table.same key) c.args.self.now ≡ None = ap (λ test. lookup test c.args.self.now) (sym alike) ∙ absent in
    let done = c.in-Ok-insert_new.ensures in
    (key, value, c.in-Ok.ensures, (done.added none).0, (done.added none).1, done.new_entry none)
