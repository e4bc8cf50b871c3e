use Rattle.watch_events.proofs.EachObject.{object_gives}
use Rattle.watch_events.proofs.laws.objects_are_lawful.Goals as goal

pub returns : goal.returns
returns c = object_gives (record {
  pods = c.objects_are_lawful.ensures.pods;
  services = c.objects_are_lawful.ensures.services;
  slices = c.objects_are_lawful.ensures.slices;
  servers = c.objects_are_lawful-2.ensures.servers;
  server_authzs = c.objects_are_lawful-2.ensures.server_authzs;
  policies = c.objects_are_lawful-2.ensures.policies;
  mesh_authns = c.objects_are_lawful-2.ensures.mesh_authns;
  net_authns = c.objects_are_lawful-2.ensures.net_authns;
  profiles = c.profiles_are_lawful.ensures;
  routes = c.routes_are_lawful.ensures;
})
