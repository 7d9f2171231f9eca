use Rattle.pmap_model.specs.MapText.{map_of}
use Rattle.pmap_model.specs.PrefixList.{list_of}
use Rattle.pmap_cert.proofs.InOrder.{list-form}
use Rattle.pmap_minimise.proofs.LabelRuns.{runs-built, runs-countable, runs-distinct, runs-entries, runs-pair}
use Rattle.pmap_minimise.proofs.Whole.{own-labels}
use Rattle.pmap_minimise.proofs.minimal.shortest.Goals as goal

pub built_of-requires : goal.built_of-requires
built_of-requires c =
    let is = c.in_ok-runs.ensures in
    runs-countable c.args.map c.in_ok-runs.runs.stretches is.version is.runs is.labels

pub entries_of-requires : goal.entries_of-requires
entries_of-requires c =
    let is = c.in_ok-runs.ensures in
    let built = runs-built c.args.map c.in_ok-runs.runs.stretches is.version is.runs is.labels c.laws.ensures.table c.in_ok-root.root c.in_ok-root.ensures in
    (built.node, built.sound, built.opens)

pub list_with-requires : goal.list_with-requires
list_with-requires c =
    let m = c.args.map in
    let is = c.in_ok-runs.ensures in
    let built = runs-built m c.in_ok-runs.runs.stretches is.version is.runs is.labels c.laws.ensures.table c.in_ok-root.root c.in_ok-root.ensures in
    let listed = c.in_ok-items.ensures built.node built.opens in
    let made = runs-entries m c.in_ok-runs.runs.stretches is.version is.runs is.labels c.laws.ensures.table c.in_ok-root.root c.in_ok-root.ensures c.in_ok-items.items listed in
    record {
      versions = made.versions;
      known = made.known;
      distinct = runs-distinct m c.in_ok-runs.runs.stretches is.version is.runs is.labels c.laws.ensures.table c.in_ok-root.root c.in_ok-root.ensures c.in_ok-items.items listed;
    }

pub returns : goal.returns
returns c =
    let m = c.args.map in
    let l = list_of c.list_with.result in
    let runs = c.in_ok-runs.ensures in
    let items = c.in_ok-items.items in
    let built = runs-built m c.in_ok-runs.runs.stretches runs.version runs.runs runs.labels c.laws.ensures.table c.in_ok-root.root c.in_ok-root.ensures in
    let listed = c.in_ok-items.ensures built.node built.opens in
    let pair = runs-pair m c.in_ok-runs.runs.stretches runs.version runs.runs runs.labels c.laws.ensures.table c.in_ok-root.root c.in_ok-root.ensures items listed l c.list_with.ensures in
    record {
      minimal = pair;
      equivalent = c.minimal_pair_is_accepted.ensures.equivalent (map_of m) l pair.0 pair.1;
      least = c.minimal_pair_is_accepted.ensures.least (map_of m) l pair.0 pair.1;
      order = list-form (map_of m) l pair.0 pair.1 (own-labels m);
    }
