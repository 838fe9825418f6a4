use Rattle.std.proofs.Common.{true, false, ◌∙◌}
use Rattle.store.specs.View.{view_held}
use Rattle.transfer.proofs.Finishing.{finishes, tells}
use Rattle.transfer.proofs.finish.Goals as goal

pub returns-then-stored : goal.returns-then-stored
returns-then-stored c =
    let puts = c.is_ok-stored.ensures.value ∙ c.put.ensures.puts.stored in
    record {
      outcome = tells _ _ _ _ _ c.room_of-room.ensures.of_cells puts true c.if-stored.true;
      held = search (finishes c.args.z c.args.slave c.args.starved c.args.x (view_held c.args.held.now));
    }

pub returns-else-stored : goal.returns-else-stored
returns-else-stored c =
    let puts = c.is_ok-stored.ensures.value ∙ c.put.ensures.puts.stored in
    record {
      outcome = tells _ _ _ _ _ c.room_of-room.ensures.of_cells puts false c.if-stored.false;
      held = search (finishes c.args.z c.args.slave c.args.starved c.args.x (view_held c.args.held.now));
    }
