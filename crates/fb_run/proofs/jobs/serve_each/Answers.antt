use denote.Exit.{no}
use denote.Ref.{ShrRef, MutRef}
use denote.Param.{param}
use denote.Param.Send.{param_send, arg_send, shr_send, mut_send}
use denote.Param.SendFields.{declared_send, as_row_send}
use denote.Signature.{named_lft}
use denote.Struct.Field.{row_field}
use denote.Struct.Tuple.{type_at}
use Rattle.std.proofs.Common.{◌≡◌, [], ◌∷◌, subst, rules}
use Rattle.std.proofs.Crossing as heap
use Rattle.std_heap.specs.contracts.Global as Global
use Rattle.fb_conn.specs.contracts.conn.Conn as Conn
use Rattle.fb_run.specs.contracts.merging.Worker as Worker
use Rattle.fb_run.specs.Outside.{disks_of}
use Rattle.fb_run.specs.Merging.{HasWorked}
use Rattle.fb_run.proofs.Crossing.{Conn-sync, Worker-send, Job-send}
use Rattle.fb_run.proofs.jobs.serve_each.Goals as goal

-- number 16 of the lifetimes is that at which each desk refers to the connection
pub beside-requires-send-J : goal.beside-requires-send-J
beside-requires-send-J g c κs within =
    let job = Job-send (named_lft 22 16 tt κs) (param 2 g.row.I) (param 3 g.row.O) (param 1 g.row.L) (param 9 g.row.L-Record) g.L.Log
    c.type_bounds.send-I c.type_bounds.send-O c.type_bounds.send-L c.type_bounds.send-L-Record in
    param_send 3 _ (arg_send _ no _ job)

-- what the worker's closure captures, in the order of its uses
pub beside-requires-send-M : goal.beside-requires-send-M
beside-requires-send-M g c κs within =
    let conn = Conn-sync (param 1 g.row.L) (param 9 g.row.L-Record) g.L.Log c.type_bounds.send-L c.type_bounds.send-L-Record in
    let worker = Worker-send (param 8 g.row.D) g.D.Disk c.type_bounds.send-D in
    let captures = type_at _ (ShrRef _ _ (param 0 g.row.R) ∷ ShrRef _ _ Global.the_row ∷ ShrRef _ _ (Conn.the_row (param 1 g.row.L) (param 9
    g.row.L-Record) g.L.Log)
    ∷ ShrRef _ _ (param 7 g.row.W) ∷ MutRef _ _ (Worker.the_row (param 8 g.row.D) g.D.Disk) ∷ []) in
    param_send 2 _ (arg_send _ no _ (declared_send captures (
      as_row_send (row_field _) (shr_send _ _ _ c.type_bounds.sync-R),
      (
        as_row_send (row_field _) (shr_send _ _ _ heap.sync),
        (
          as_row_send (row_field _) (shr_send _ _ _ conn),
          (as_row_send (row_field _) (shr_send _ _ _ c.type_bounds.sync-W), (as_row_send (row_field _) (mut_send _ _ _ worker), tt)),
        ),
      ),
    )))

pub returns-clause-talked : goal.returns-clause-talked
returns-clause-talked g c = λ k d within. let r = (c.beside.ensures.jobs k d within).1 in rw (← r.argument_is, ← r.left) r.call

pub returns-clause-worked : goal.returns-clause-worked
returns-clause-worked g c =
    let disks = disks_of g.D.Disk.bytes g.D.Disk.faults g.D.Disk.images g.D.Disk.moment g.D.Disk.images_since in
    let left : c.beside.new.merges.4.now ≡ c.worker-1.given.0 = search rules in
    subst (HasWorked disks c.args.conn.now c.args.worker.now) left c.beside.ensures.merges.met.1
