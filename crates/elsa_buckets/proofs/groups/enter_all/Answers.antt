use Rattle.std.proofs.Common.{◌≡◌, ◌<◌, get_or, length, slice_get, Some, ap, subst, sym, ◌∙◌, arith}
use Rattle.std.proofs.Math.ListN.{set, length-set}
use Rattle.std.proofs.lemmas.List.{get_or_default}
use Rattle.std.proofs.lemmas.Option.{slice_get-get_or}
use Rattle.elsa_buckets.specs.Groups.{empty_group, group_at, number_in, tag_in, EndsAt, Fills}
use Rattle.elsa_buckets.proofs.GroupLemmas.{stores_new, stores_next, stores_stays, taken_below}
use Rattle.elsa_buckets.proofs.groups.enter_all.Goals as goal

pub loop-lane-preserved : goal.loop-lane-preserved
loop-lane-preserved c =
    let groups = c.loop-lane.groups in
    let hashes = c.args.hashes.now in
    let from = c.args.from.now in
    let lane = c.loop-lane.lane in
    let bucket = c.in-Some.bucket in
    let group = c.fill.new.self in
    let index = number_in from lane in
    let hash = get_or c.hashes_in-read.result lane 0 in
    let ends : EndsAt groups hash bucket = c.in-Some.ensures in
    let fills : Fills (group_at groups bucket.group) bucket.lane hash index group
    = subst (λ g. Fills g bucket.lane hash index group) (get_or_default groups bucket.group _ empty_group ends.within) c.fill.ensures in
    let taken : 0 < tag_in from lane = omega (arith, c.if-from-lane-eq0.false) in
    let below : index < length hashes = c.requires.known lane c.loop-lane-test.true taken in
    let known : slice_get hashes index ≡ Some hash = slice_get-get_or hashes index 0 below ∙ ap Some (sym (c.hashes_in-read.ensures lane c.loop-lane-test.true)) in
    let stays = stores_stays groups hash index bucket ends group fills in (
      stores_next groups (set groups bucket.group group) hashes from lane hash c.loop-lane.invariant.0 stays known (stores_new groups hash index bucket ends group fills),
      λ h n before. stays h n (c.loop-lane.invariant.1 h n before),
      taken_below groups hash index bucket ends group fills (length hashes) below c.loop-lane.invariant.2,
      length-set groups bucket.group group ∙ c.loop-lane.invariant.3,
    )
