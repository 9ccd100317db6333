-- What the writer's walks hold on to.
pub mod Laying
